use Rattle.std.proofs.Common.{ap, ◌∙◌}
use Rattle.rc_text.specs.Literals.{marks}
use Rattle.rc_glob.proofs.Members.{range_step, other_step}
use Rattle.rc_glob.proofs.classes.holds.Goals as goal

pub loop-first-preserved-then-is_marked : goal.loop-first-preserved-then-is_marked
loop-first-preserved-then-is_marked c =
    c.loop-first.invariant ∙ range_step _ _ _ _ _ _ _ _ _ (ap marks c.in-Some.ensures.cases.0) (ap marks c.in-Some-split_first.ensures.cases.0) (ap marks c.in-Some-split_first-2.ensures.cases.0)
    c.is_marked.ensures c.if-is_marked.true _ c.is_between.ensures c.if-is_between.false

pub loop-first-preserved : goal.loop-first-preserved
loop-first-preserved c =
    c.loop-first.invariant ∙ other_step _ _ _ _ _ _ _ _ _ (ap marks c.in-Some.ensures.cases.0) (ap marks c.in-Some-split_first.ensures.cases.0) (ap marks c.in-Some-split_first-2.ensures.cases.0)
    c.is_marked.ensures c.if-is_marked.false c.if-first-c-2.false
