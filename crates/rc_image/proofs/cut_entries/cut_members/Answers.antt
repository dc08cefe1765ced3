use Rattle.std.proofs.Common.{rules, ◌≡◌, ◌∷◌, [], ◌++◌, lit<, None, Some}
use Rattle.std.proofs.lemmas.Str.Pattern.{split_parts}
use Rattle.rc_model.specs.Handed.Environment.{entry_members}
use Rattle.rc_image.proofs.Escapes.{one_member, no_more_members}
use Rattle.rc_image.proofs.cut_entries.cut_members.Goals as goal

pub loop-member-preserved : goal.loop-member-preserved
loop-member-preserved c =
    let parts = split_parts 1 c.loop-member.rest.now (Some (c.in-Some.member, c.in-Some.after)) c.in-Some.ensures.cases (lit< tt) in
    let pushed : c.push.new.self.items ≡ c.loop-member.members.items ++ c.in_ok-unescaped.field-0 ∷ [] = search rules in (
      one_member c.loop-member.members.items c.push.new.self.items c.in_ok-unescaped.field-0 c.in-Some.member.now c.in-Some.after.now c.loop-member.rest.now
          (entry_members c.args.text.now) parts.0 parts.1 c.in_ok-unescaped.ensures c.loop-member.invariant.0 pushed,
      search rules,
    )

pub returns : goal.returns
returns c =
    let lacks = split_parts 1 c.loop-member.rest.now None c.in_default.ensures.cases (lit< tt) in
    let pushed : c.push-2.new.self.items ≡ c.loop-member.members.items ++ c.in_ok-unescaped-2.field-0 ∷ [] = search rules in
    no_more_members c.loop-member.members.items c.push-2.new.self.items c.in_ok-unescaped-2.field-0 c.loop-member.rest.now (entry_members c.args.text.now) lacks
    c.in_ok-unescaped-2.ensures c.loop-member.invariant.0 pushed
