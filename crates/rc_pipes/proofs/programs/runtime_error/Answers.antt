use Rattle.std.specs.Prelude.{codes}
use Rattle.rc_model.specs.Run.Acts.{report}
use Rattle.rc_model.specs.Run.Plans.{done_with}
use Rattle.rc_model.specs.Run.Shell.{Next, leaves}
use Rattle.rc_model.specs.Run.State.{with_status}
use Rattle.rc_world.specs.declared.starts.Stop.TheVariants.{NoMemory}
use Rattle.rc_scope.specs.States.{state_of}
use Rattle.rc_world.proofs.Joins.{left_here, passed_up}
use Rattle.rc_world.proofs.Shells.{left_next, left_under}
use Rattle.law_plans.proofs.Runs.{ran_next, ran_none}
use Rattle.rc_pipes.proofs.programs.runtime_error.Goals as goal

pub returns-in_err-report-clause-does : goal.returns-in_err-report-clause-does
returns-in_err-report-clause-does g c =
    passed_up _ _ _ _ c.from_residual.result c.in_err-report.field-0.0 c.from_residual.ensures.1
    (left_under _ _ _ (report c.args.slots c.args.text.now (state_of c.args.state.now)) (λ x t. done_with (Next tt (with_status t (codes "error")))) leaves (c.in_err-report.ensures (state_of c.args.state.now)))

pub returns-in_err-set_status-clause-does : goal.returns-in_err-set_status-clause-does
returns-in_err-set_status-clause-does g c =
    let s = state_of c.args.state.now in
    passed_up _ _ _ _ c.from_residual-in_err-set_status.result NoMemory c.from_residual-in_err-set_status.ensures.1
    (left_next _ _ _ _ (report c.args.slots c.args.text.now s) tt s (λ x t. done_with (Next tt (with_status t (codes "error")))) leaves (c.in_ok-report.ensures s) (left_here _ _ _ _ (ran_none _ _)))

pub returns-clause-does : goal.returns-clause-does
returns-clause-does g c =
    let s = state_of c.args.state.now in
    ran_next _ _ _ (report c.args.slots c.args.text.now s) tt s (λ x t. done_with (Next tt (with_status t (codes "error")))) leaves _ (c.in_ok-report.ensures s) (rw c.in_ok-set_status.ensures.ok (ran_none _ _))
