use Rattle.std.proofs.Common.{rules, arith}
use Rattle.rc_glob.proofs.Lasts.{both_parts, cut_more, may_cut, no_cut, too_short}
use Rattle.rc_glob.proofs.search.split_last.Goals as goal

pub loop-left-init : goal.loop-left-init
loop-left-init c = record { cut = no_cut c.args.text.now c.args.count; utf8 = c.utf8.text }

pub loop-left-preserved : goal.loop-left-preserved
loop-left-preserved c = record {
  cut = cut_more _ _ _ _ _ _ _ c.in-Some.ensures.bytes c.in-Some.ensures.chars (omega arith) c.loop-left.invariant.cut;
  utf8 = c.in-Some.ensures.utf8;
}

pub returns-in_default-clause-parts : goal.returns-in_default-clause-parts
returns-in_default-clause-parts c = too_short _ _ _ _ c.in_default.ensures.chars c.loop-left-test.true c.loop-left.invariant.cut

pub split_at-requires : goal.split_at-requires
split_at-requires c = may_cut _ _ _ _ _ c.utf8.text c.loop-left.invariant.utf8 (search rules) c.loop-left.invariant.cut

pub returns-clause-parts : goal.returns-clause-parts
returns-clause-parts c =
    both_parts _ _ _ _ _ _ _ c.loop-left.invariant.utf8 (search rules) c.split_at.ensures.front c.split_at.ensures.back c.loop-left-test.false c.loop-left.invariant.cut
