use Rattle.std.proofs.Common.{rules, ◌≡◌}
use Rattle.rc_model.specs.Run.Acts.{ending_status}
use Rattle.rc_model.specs.Run.Calls.{wait, as_ending}
use Rattle.rc_model.specs.Run.Plans.{done_with}
use Rattle.rc_model.specs.Run.Shell.{Next}
use Rattle.rc_model.specs.Run.State.{with_status}
use Rattle.rc_world.specs.declared.starts.Stop.TheVariants.{NoMemory}
use Rattle.rc_scope.specs.States.{state_of}
use Rattle.rc_world.proofs.Joins.{left_answered, left_asked, left_here, passed_up, ran_answered}
use Rattle.law_plans.proofs.Runs.{ran_none}
use Rattle.rc_pipes.proofs.programs.wait_started.Goals as goal

pub returns-in_err-ending-clause-does : goal.returns-in_err-ending-clause-does
returns-in_err-ending-clause-does g c =
    rw c.in-Child.is (passed_up _ _ _ _ c.from_residual.result c.in_err-ending.field-0.0 c.from_residual.ensures.1
    (left_asked _ _ _ (wait c.in-Child.child.0) as_ending (λ e. done_with (Next tt (with_status (state_of c.args.state.now) (ending_status e)))) c.in_err-ending.ensures))

pub returns-in_err-status-clause-does : goal.returns-in_err-status-clause-does
returns-in_err-status-clause-does g c =
    rw c.in-Child.is (passed_up _ _ _ _ c.from_residual-in_err-status.result NoMemory c.from_residual-in_err-status.ensures.1
    (left_answered _ _ _ _ (wait c.in-Child.child.0) as_ending _ (λ e. done_with (Next tt (with_status (state_of c.args.state.now) (ending_status e)))) c.in_ok-ending.ensures (left_here _ _ _ _ (ran_none _ _))))

pub returns-in_err-set_status-clause-does : goal.returns-in_err-set_status-clause-does
returns-in_err-set_status-clause-does g c =
    rw c.in-Child.is (passed_up _ _ _ _ c.from_residual-in_err-set_status.result NoMemory c.from_residual-in_err-set_status.ensures.1
    (left_answered _ _ _ _ (wait c.in-Child.child.0) as_ending _ (λ e. done_with (Next tt (with_status (state_of c.args.state.now) (ending_status e)))) c.in_ok-ending.ensures (left_here _ _ _ _ (ran_none _ _))))

pub returns-clause-does : goal.returns-clause-does
returns-clause-does g c =
    let text : c.deref.result.now ≡ ending_status (c.in_ok-ending.ending) = search rules in
    rw (c.in-Child.is, c.in_ok-set_status.ensures.ok, text)
    (ran_answered _ _ _ (wait c.in-Child.child.0) as_ending _ (λ e. done_with (Next tt (with_status (state_of c.args.state.now) (ending_status e)))) _ c.in_ok-ending.ensures (ran_none _ _))
