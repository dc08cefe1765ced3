use Rattle.std.proofs.Common.{rules, ◌≡◌, string_bytes}
use Rattle.rc_model.specs.Run.Acts.{waited, set_status}
use Rattle.rc_world.specs.declared.starts.Stop.TheVariants.{NoMemory}
use Rattle.rc_scope.specs.States.{state_of}
use Rattle.rc_world.proofs.Joins.{left_here, passed_up}
use Rattle.rc_world.proofs.Shells.{left_do, left_done, ran_do}
use Rattle.law_plans.proofs.Runs.{ran_none}
use Rattle.rc_pipes.proofs.launches.wait_subshell.Goals as goal

pub returns-in_err-set_status-in-NoChild-clause-does : goal.returns-in_err-set_status-in-NoChild-clause-does
returns-in_err-set_status-in-NoChild-clause-does g c =
    rw c.in-NoChild.is (passed_up _ _ _ _ c.from_residual.result NoMemory c.from_residual.ensures.1 (left_here _ _ _ _ (ran_none _ _)))

pub returns-in_err-status-clause-does : goal.returns-in_err-status-clause-does
returns-in_err-status-clause-does g c =
    let s = state_of c.args.state.now in
    rw c.in-Child.is (passed_up _ _ _ _ c.from_residual-in_err-status.result c.in_err-status.field-0.0 c.from_residual-in_err-status.ensures.1
    (left_do {s = s} (waited c.in-Child.child.0) (λ status. set_status status) (c.in_err-status.ensures s)))

pub returns-in_err-set_status-clause-does : goal.returns-in_err-set_status-clause-does
returns-in_err-set_status-clause-does g c =
    let s = state_of c.args.state.now in
    rw c.in-Child.is (passed_up _ _ _ _ c.from_residual-in_err-set_status.result NoMemory c.from_residual-in_err-set_status.ensures.1
    (left_done {s = s} {t = s} (waited c.in-Child.child.0) (λ status. set_status status) (c.in_ok-status.ensures s) (left_here _ _ _ _ (ran_none _ _))))

pub returns-clause-does : goal.returns-clause-does
returns-clause-does g c =
    let s = state_of c.args.state.now in
    let text : c.deref.result.now ≡ string_bytes c.in_ok-status.status = search rules in
    rw (c.in-Child.is, c.in_ok-set_status.ensures.ok, text)
    (ran_do {s = s} {t = s} (waited c.in-Child.child.0) (λ status. set_status status) (c.in_ok-status.ensures s) (ran_none _ _))
