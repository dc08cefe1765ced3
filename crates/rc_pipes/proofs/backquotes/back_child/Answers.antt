use Rattle.std.proofs.Common.{◌≡◌, string_bytes}
use Rattle.rc_pipes.specs.Starts.{started_of}
use Rattle.rc_model.specs.Run.Acts.{back_status, longest_output}
use Rattle.rc_scope.specs.States.{state_of}
use Rattle.rc_world.specs.declared.starts.Stop.TheVariants.{NoMemory}
use Rattle.rc_world.proofs.Joins.{left_here, passed_up}
use Rattle.rc_pipes.specs.Readings.{got_of}
use Rattle.rc_pipes.proofs.Outputs.{left_closing, left_unread, ran_unread, left_reading, left_closing_read, left_waiting, ran_finished, why_or}
use Rattle.rc_pipes.proofs.backquotes.back_child.Goals as goal

pub returns-in_err-close-clause-does : goal.returns-in_err-close-clause-does
returns-in_err-close-clause-does g c =
    passed_up _ _ _ _ c.from_residual.result c.in_err-close.field-0.0 c.from_residual.ensures.1
    (left_closing c.args.read_end.0 c.args.write_end.0 (state_of c.args.state.now) _ _ _ (started_of c.args.started) c.in_err-close.ensures)

pub returns-in_err-close-in-NoChild-clause-does : goal.returns-in_err-close-in-NoChild-clause-does
returns-in_err-close-in-NoChild-clause-does g c =
    rw c.in-NoChild.is
    (passed_up _ _ _ _ c.from_residual-in_err-close-in-NoChild.result c.in_err-close-in-NoChild.field-0.0 c.from_residual-in_err-close-in-NoChild.ensures.1
    (left_unread c.args.read_end.0 c.args.write_end.0 (state_of c.args.state.now) c.in-NoChild.why.now _ _ _ c.in_ok-close.ensures _ _ c.in_err-close-in-NoChild.ensures))

pub returns-in_err-set_status-in-NoChild-clause-does : goal.returns-in_err-set_status-in-NoChild-clause-does
returns-in_err-set_status-in-NoChild-clause-does g c =
    rw c.in-NoChild.is
    (passed_up _ _ _ _ c.from_residual-in_err-set_status-in-NoChild.result NoMemory c.from_residual-in_err-set_status-in-NoChild.ensures.1
    (left_here _ _ _ _ (ran_unread c.args.read_end.0 c.args.write_end.0 (state_of c.args.state.now) c.in-NoChild.why.now _ _ _ c.in_ok-close.ensures _ _ c.in_ok-close-in-NoChild.ensures)))

pub returns-in-NoChild-clause-does : goal.returns-in-NoChild-clause-does
returns-in-NoChild-clause-does g c =
    rw (c.in-NoChild.is, c.empty.ensures, c.in_ok-set_status-in-NoChild.ensures.ok)
    (ran_unread c.args.read_end.0 c.args.write_end.0 (state_of c.args.state.now) c.in-NoChild.why.now _ _ _ c.in_ok-close.ensures _ _ c.in_ok-close-in-NoChild.ensures)

pub returns-in_err-read-clause-does : goal.returns-in_err-read-clause-does
unfolding longest_output
returns-in_err-read-clause-does g c =
    rw c.in-Child.is
    (passed_up _ _ _ _ c.from_residual-in_err-read.result c.in_err-read.field-0.0 c.from_residual-in_err-read.ensures.1
    (left_reading c.args.read_end.0 c.args.write_end.0 (state_of c.args.state.now) c.in-Child.child.0 _ _ _ c.in_ok-close.ensures _ _
    (c.in_err-read.ensures (state_of c.args.state.now))))

pub returns-in_err-close-2-clause-does : goal.returns-in_err-close-2-clause-does
unfolding longest_output
returns-in_err-close-2-clause-does g c =
    rw c.in-Child.is
    (passed_up _ _ _ _ c.from_residual-in_err-close-2.result c.in_err-close-2.field-0.0 c.from_residual-in_err-close-2.ensures.1
    (left_closing_read c.args.read_end.0 c.args.write_end.0 (state_of c.args.state.now) c.in-Child.child.0 _ _ _ c.in_ok-close.ensures
    (got_of c.in_ok-read.read) _ (c.in_ok-read.ensures (state_of c.args.state.now))
    _ _ c.in_err-close-2.ensures))

pub returns-in_err-status-clause-does : goal.returns-in_err-status-clause-does
unfolding longest_output
returns-in_err-status-clause-does g c =
    rw c.in-Child.is
    (passed_up _ _ _ _ c.from_residual-in_err-status.result c.in_err-status.field-0.0 c.from_residual-in_err-status.ensures.1
    (left_waiting c.args.read_end.0 c.args.write_end.0 (state_of c.args.state.now) c.in-Child.child.0 _ _ _ c.in_ok-close.ensures
    (got_of c.in_ok-read.read) _ (c.in_ok-read.ensures (state_of c.args.state.now))
    _ _ c.in_ok-close-2.ensures _ _ (c.in_err-status.ensures (state_of c.args.state.now))))

pub returns-in_err-set_status-clause-does : goal.returns-in_err-set_status-clause-does
unfolding longest_output
returns-in_err-set_status-clause-does g c =
    rw c.in-Child.is
    (passed_up _ _ _ _ c.from_residual-in_err-set_status.result NoMemory c.from_residual-in_err-set_status.ensures.1
    (left_here _ _ _ _ (ran_finished c.args.read_end.0 c.args.write_end.0 (state_of c.args.state.now) c.in-Child.child.0 _ _ _ c.in_ok-close.ensures
    (got_of c.in_ok-read.read) _ (c.in_ok-read.ensures (state_of c.args.state.now))
    _ _ c.in_ok-close-2.ensures _ _ (c.in_ok-status.ensures (state_of c.args.state.now)))))

pub returns-in_err-output-clause-does : goal.returns-in_err-output-clause-does
unfolding longest_output
returns-in_err-output-clause-does g c =
    rw c.in-Child.is
    (passed_up _ _ _ _ c.from_residual-in_err-output.result NoMemory c.from_residual-in_err-output.ensures.1
    (left_here _ _ _ _ (ran_finished c.args.read_end.0 c.args.write_end.0 (state_of c.args.state.now) c.in-Child.child.0 _ _ _ c.in_ok-close.ensures
    (got_of c.in_ok-read.read) _ (c.in_ok-read.ensures (state_of c.args.state.now))
    _ _ c.in_ok-close-2.ensures _ _ (c.in_ok-status.ensures (state_of c.args.state.now)))))

pub returns-clause-does : goal.returns-clause-does
unfolding longest_output
returns-clause-does g c =
    let out = c.in_ok-read.read in
    let status : c.deref.result.now ≡ string_bytes c.in_ok-status.status = c.deref.ensures in
    let why : c.unwrap_or.result.now ≡ back_status (got_of out).why c.deref.result.now = why_or out.why c.deref.result c.unwrap_or.result c.unwrap_or.ensures in
    rw (c.in-Child.is, c.in_ok-output.ensures, c.in_ok-set_status.ensures.ok, why, status)
    (ran_finished c.args.read_end.0 c.args.write_end.0 (state_of c.args.state.now) c.in-Child.child.0 _ _ _ c.in_ok-close.ensures
    (got_of out) _ (c.in_ok-read.ensures (state_of c.args.state.now))
    _ _ c.in_ok-close-2.ensures _ _ (c.in_ok-status.ensures (state_of c.args.state.now)))
