use Rattle.std.proofs.Common.{◌∷◌, [], refl, sym, ap, ◌∙◌}
use Rattle.rc_text.proofs.Runs.{IsUtf8-more, after_cut, begun, last_member, none_in, not_begun, shorter}
use Rattle.rc_text.proofs.members.first_member.Goals as goal

pub returns-then-not-is_empty : goal.returns-then-not-is_empty
returns-then-not-is_empty c = (
  sym c.loop-member.invariant.same
      ∙ after_cut _ _ _ _ c.loop-member.invariant.utf8 c.in-Some.ensures ∙ begun _ _ (sym c.if-not-is_empty.ensures),
  IsUtf8-more _ _ _ _ c.loop-member.invariant.utf8 c.in-Some.ensures,
)

pub loop-member-smaller : goal.loop-member-smaller
loop-member-smaller c = shorter _ _ _ _ c.in-Some.ensures

pub loop-member-preserved : goal.loop-member-preserved
loop-member-preserved c = record {
  same =
      sym (after_cut _ _ _ _ c.loop-member.invariant.utf8 c.in-Some.ensures ∙ not_begun _ _ (sym c.if-not-is_empty.ensures))
      ∙ c.loop-member.invariant.same;
  utf8 = IsUtf8-more _ _ _ _ c.loop-member.invariant.utf8 c.in-Some.ensures;
}

pub returns-then-is_empty : goal.returns-then-is_empty
returns-then-is_empty c =
    sym c.loop-member.invariant.same
    ∙ last_member _ _ c.loop-member.invariant.utf8 c.in_default.ensures ∙ not_begun _ [] (sym c.if-is_empty.ensures)

pub returns : goal.returns
returns c = (
  sym c.loop-member.invariant.same
      ∙ last_member _ _ c.loop-member.invariant.utf8 c.in_default.ensures ∙ begun _ [] (sym c.if-is_empty.ensures)
      ∙ ap (λ ms. c.loop-member.rest.now ∷ ms) (sym (none_in c.args.separators.now)),
  ([], (refl, refl)),
)
