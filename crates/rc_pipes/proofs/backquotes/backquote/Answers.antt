use Rattle.std.proofs.Common.{Some, None, sym}
use Rattle.rc_model.specs.Run.Acts.{start_shell, back_child, back_pipe}
use Rattle.rc_model.specs.Run.Calls.{make_pipe, as_pair, with_slot, to_file}
use Rattle.rc_scope.specs.States.{state_of}
use Rattle.rc_tree.specs.View.{cmd_tree}
use Rattle.rc_world.specs.declared.starts.Stop.TheVariants.{NoMemory}
use Rattle.rc_world.proofs.Joins.{comes_answered, left_answered, left_asked, left_here, passed_up, ran_answered}
use Rattle.rc_world.proofs.Shells.{comes_do, left_do}
use Rattle.law_plans.proofs.Runs.{ran_none}
use Rattle.rc_pipes.proofs.backquotes.backquote.Goals as goal

pub returns-in_err-read_end-clause-does : goal.returns-in_err-read_end-clause-does
returns-in_err-read_end-clause-does g c =
    let body = cmd_tree c.args.body.now in
    let s = state_of c.args.state.now in
    passed_up _ _ _ _ c.from_residual.result c.in_err-read_end.field-0.0 c.from_residual.ensures.1
    (left_asked _ _ _ make_pipe as_pair (λ ends. back_pipe c.args.slots body ends s) c.in_err-read_end.ensures)

pub returns-in_err-set_status-clause-does : goal.returns-in_err-set_status-clause-does
returns-in_err-set_status-clause-does g c =
    let body = cmd_tree c.args.body.now in
    let s = state_of c.args.state.now in
    passed_up _ _ _ _ c.from_residual-in_err-set_status.result NoMemory c.from_residual-in_err-set_status.ensures.1
    (left_answered _ _ _ _ make_pipe as_pair None (λ ends. back_pipe c.args.slots body ends s)
    (rw c.in_default.is at c.in_ok-read_end.ensures) (left_here _ _ _ _ (ran_none _ _)))

pub returns-in_default-clause-does : goal.returns-in_default-clause-does
returns-in_default-clause-does g c =
    let body = cmd_tree c.args.body.now in
    let s = state_of c.args.state.now in
    rw (c.empty.ensures, c.in_ok-set_status.ensures.ok)
    (ran_answered _ _ _ make_pipe as_pair None (λ ends. back_pipe c.args.slots body ends s) _
    (rw c.in_default.is at c.in_ok-read_end.ensures) (ran_none _ _))

pub returns-in_err-keep_entries-clause-does : goal.returns-in_err-keep_entries-clause-does
returns-in_err-keep_entries-clause-does g c =
    let body = cmd_tree c.args.body.now in
    let s = state_of c.args.state.now in
    let r = c.in-Some.read_end.0 in
    let w = c.in-Some.write_end.0 in
    passed_up _ _ _ _ c.from_residual-in_err-keep_entries.result NoMemory c.from_residual-in_err-keep_entries.ensures.1
    (left_answered _ _ _ _ make_pipe as_pair (Some (r, w)) (λ ends. back_pipe c.args.slots body ends s)
    (rw c.in-Some.is at c.in_ok-read_end.ensures) (left_here _ _ _ _ (ran_none _ _)))

pub returns-in_err-started-clause-does : goal.returns-in_err-started-clause-does
returns-in_err-started-clause-does g c =
    let body = cmd_tree c.args.body.now in
    let s = state_of c.keep_entries.new.state in
    let r = c.in-Some.read_end.0 in
    let w = c.in-Some.write_end.0 in
    rw (sym c.keep_entries.ensures) (passed_up _ _ _ _ c.from_residual-in_err-started.result c.in_err-started.field-0.0 c.from_residual-in_err-started.ensures.1
    (left_answered _ _ _ _ make_pipe as_pair (Some (r, w)) (λ ends. back_pipe c.args.slots body ends s)
    (rw c.in-Some.is at c.in_ok-read_end.ensures)
    (left_do {s = s} (start_shell (with_slot c.args.slots 1 (to_file w)) body) (λ child. back_child r w child) (c.in_err-started.ensures))))

pub returns-clause-does : goal.returns-clause-does
returns-clause-does g c =
    let body = cmd_tree c.args.body.now in
    let s = state_of c.keep_entries.new.state in
    let r = c.in-Some.read_end.0 in
    let w = c.in-Some.write_end.0 in
    rw (sym c.keep_entries.ensures) (comes_answered _ _ _ make_pipe as_pair (Some (r, w)) (λ ends. back_pipe c.args.slots body ends s) _ c.back_child.result
    (rw c.in-Some.is at c.in_ok-read_end.ensures)
    (comes_do {s = s} (start_shell (with_slot c.args.slots 1 (to_file w)) body) (λ child. back_child r w child) _ _ c.back_child.result
    (c.in_ok-started.ensures) c.back_child.ensures.does))
