use Rattle.std.proofs.Common.{string_bytes}
use Rattle.rc_world.proofs.Joins.{passed_up}
use Rattle.rc_pipes.proofs.InOrder.{waited_more, left_waiting, waited_all}
use Rattle.rc_pipes.proofs.jobs.wait_all.Goals as goal

pub returns-in_err-status : goal.returns-in_err-status
returns-in_err-status g c = λ s.
    passed_up _ _ _ _ c.from_residual.result c.in_err-status.field-0.0 c.from_residual.ensures.1
    (left_waiting s _ _ c.args.children.now c.loop-child.child-index (string_bytes c.loop-child.status)
    (c.loop-child.invariant s) _ _ c.loop-child-test.true _ c.in_err-status.ensures)

pub loop-child-preserved : goal.loop-child-preserved
loop-child-preserved g c = λ s.
    waited_more s _ _ c.args.children.now c.loop-child.child-index (string_bytes c.loop-child.status)
    (c.loop-child.invariant s) _ _ c.loop-child-test.true _ c.in_ok-status.ensures

pub returns : goal.returns
returns g c = λ s.
    waited_all s _ _ c.args.children.now c.loop-child.child-index (string_bytes c.loop-child.status)
    (c.loop-child.invariant s) c.loop-child-test.false
