use Rattle.rc_model.specs.Code.Machine.{Over}
use Rattle.rc_world.proofs.Joins.{passed_up}
use Rattle.rc_machine.proofs.Waits.{left_at_wait, ran_further}
use Rattle.rc_machine.proofs.configuration.endings.wait_owed.Goals as goal

pub returns-in_err-wait : goal.returns-in_err-wait
returns-in_err-wait g c s =
    passed_up _ _ _ (λ x. Over s) c.from_residual.result c.in_err-wait.field-0.0 c.from_residual.ensures.1
    (left_at_wait c.args.owed.now c.loop-child.child-index (record { 0 = 0 }) c.loop-child-test.true s _ _ _ (c.loop-child.invariant s)
    c.in_err-wait.field-0.0 c.in_err-wait.ensures)

pub loop-child-preserved : goal.loop-child-preserved
loop-child-preserved g c s =
    ran_further c.args.owed.now c.loop-child.child-index (record { 0 = 0 }) c.loop-child-test.true s _ _ _ (c.loop-child.invariant s)
    c.in_ok-wait.field-0 c.in_ok-wait.ensures
