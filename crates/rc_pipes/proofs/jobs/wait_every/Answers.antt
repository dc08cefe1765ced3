use Rattle.std.proofs.Common.{rules, ◌≡◌, string_bytes}
use Rattle.rc_scope.specs.States.{state_of}
use Rattle.rc_world.specs.declared.starts.Stop.TheVariants.{NoMemory}
use Rattle.rc_world.proofs.Joins.{left_here, passed_up}
use Rattle.rc_pipes.proofs.InOrder.{every_left, every_waited}
use Rattle.rc_pipes.proofs.jobs.wait_every.Goals as goal

pub returns-in_err-status-clause-does : goal.returns-in_err-status-clause-does
returns-in_err-status-clause-does g c =
    let s = state_of c.args.state.now in
    passed_up _ _ _ _ c.from_residual.result c.in_err-status.field-0.0 c.from_residual.ensures.1
    (every_left _ _ s _ (rw c.children.ensures at (c.in_err-status.ensures s)))

pub returns-in_err-set_status-clause-does : goal.returns-in_err-set_status-clause-does
returns-in_err-set_status-clause-does g c =
    passed_up _ _ _ _ c.from_residual-in_err-set_status.result NoMemory c.from_residual-in_err-set_status.ensures.1
    (left_here _ _ _ _ (every_waited _ _ (state_of c.args.state.now) _ (rw c.children.ensures at (c.in_ok-status.ensures (state_of c.args.state.now)))))

pub returns-clause-does : goal.returns-clause-does
returns-clause-does g c =
    let s = state_of c.args.state.now in
    let text : c.deref.result.now ≡ string_bytes c.in_ok-status.status = search rules in
    rw (c.clear_children.ensures, c.in_ok-set_status.ensures.ok, text)
    (every_waited _ _ s _ (rw c.children.ensures at (c.in_ok-status.ensures s)))
