use Rattle.std.proofs.Common.{◌+◌, add-one, ap, sym, ◌∙◌}
use Rattle.rc_scope.proofs.Firsts.{none_more, none_there, first_there}
use Rattle.rc_scope.proofs.background_children.place_of.Goals as goal

pub returns-then-is_same : goal.returns-then-is_same
returns-then-is_same c =
    rw c.loop-other.invariant.0 (c.loop-other-test.true, first_there c.args.child.0 c.args.children.now c.loop-other.other-index _ c.loop-other.invariant.1 c.loop-other-test.true (sym c.is_same.ensures ∙ c.if-is_same.true))

pub loop-other-preserved : goal.loop-other-preserved
loop-other-preserved c =
    let i = c.loop-other.other-index in
    (ap (λ n. n + 1) c.loop-other.invariant.0, rw (add-one i) (none_more c.args.child.0 c.args.children.now i _ c.loop-other.invariant.1 c.loop-other-test.true (sym c.is_same.ensures ∙ c.if-is_same.false)))

pub returns : goal.returns
returns c = none_there c.args.child.0 c.args.children.now c.loop-other.other-index c.loop-other.invariant.1 c.loop-other-test.false
