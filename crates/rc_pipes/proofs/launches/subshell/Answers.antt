use Rattle.std.proofs.Common.{sym}
use Rattle.rc_model.specs.Run.Acts.{start_shell, wait_subshell}
use Rattle.rc_scope.specs.States.{state_of}
use Rattle.rc_tree.specs.View.{cmd_tree}
use Rattle.rc_world.specs.declared.starts.Stop.TheVariants.{NoMemory}
use Rattle.rc_world.proofs.Joins.{left_here, passed_up}
use Rattle.rc_world.proofs.Shells.{comes_do, left_do}
use Rattle.law_plans.proofs.Runs.{ran_none}
use Rattle.rc_pipes.proofs.launches.subshell.Goals as goal

pub returns-in_err-keep_entries-clause-does : goal.returns-in_err-keep_entries-clause-does
returns-in_err-keep_entries-clause-does g c = passed_up _ _ _ _ c.from_residual.result NoMemory c.from_residual.ensures.1 (left_here _ _ _ _ (ran_none _ _))

pub returns-in_err-started-clause-does : goal.returns-in_err-started-clause-does
returns-in_err-started-clause-does g c =
    let body = cmd_tree c.args.body.now in
    let s = state_of c.keep_entries.new.state in
    rw (sym c.keep_entries.ensures)
    (passed_up _ _ _ _ c.from_residual-in_err-started.result c.in_err-started.field-0.0 c.from_residual-in_err-started.ensures.1
    (left_do {s = s} (start_shell c.args.slots body) wait_subshell (c.in_err-started.ensures)))

pub returns-clause-does : goal.returns-clause-does
returns-clause-does g c =
    let body = cmd_tree c.args.body.now in
    let s = state_of c.keep_entries.new.state in
    rw (sym c.keep_entries.ensures)
    (comes_do {s = s} (start_shell c.args.slots body) wait_subshell _ _ c.wait_subshell.result
    (c.in_ok-started.ensures) c.wait_subshell.ensures.does)
