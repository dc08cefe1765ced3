use Rattle.std.proofs.Common.{sym}
use Rattle.rc_pipes.specs.Starts.{started_of}
use Rattle.rc_model.specs.Run.Acts.{start_shell, kept_child}
use Rattle.rc_model.specs.Run.Calls.{close, as_done, with_slot, to_file}
use Rattle.rc_model.specs.Run.Shell.{◌>>◌, say}
use Rattle.rc_scope.specs.States.{state_of}
use Rattle.rc_tree.specs.View.{cmd_tree}
use Rattle.rc_world.specs.declared.starts.Stop.TheVariants.{NoMemory}
use Rattle.rc_world.proofs.Joins.{left_here, passed_up, ran_as}
use Rattle.rc_world.proofs.Shells.{left_do, left_done, ran_do}
use Rattle.law_plans.proofs.Runs.{ran_none}
use Rattle.rc_pipes.proofs.Steps.{ran_said, left_said, left_saying}
use Rattle.rc_pipes.proofs.jobs.background_with.Goals as goal

pub returns-in_err-keep_entries-clause-does : goal.returns-in_err-keep_entries-clause-does
returns-in_err-keep_entries-clause-does g c = passed_up _ _ _ _ c.from_residual.result NoMemory c.from_residual.ensures.1 (left_here _ _ _ _ (ran_none _ _))

pub returns-in_err-started-clause-does : goal.returns-in_err-started-clause-does
returns-in_err-started-clause-does g c =
    let body = cmd_tree c.args.body.now in
    let s = state_of c.keep_entries.new.state in
    let inner = with_slot c.args.slots 0 (to_file c.args.file.0) in
    rw (sym c.keep_entries.ensures) (passed_up _ _ _ _ c.from_residual-in_err-started.result c.in_err-started.field-0.0 c.from_residual-in_err-started.ensures.1
    (left_do {s = s} (start_shell inner body) (λ child. say (close c.args.file.0) >> kept_child child) (c.in_err-started.ensures)))

pub returns-in_err-close-clause-does : goal.returns-in_err-close-clause-does
returns-in_err-close-clause-does g c =
    let body = cmd_tree c.args.body.now in
    let s = state_of c.keep_entries.new.state in
    let inner = with_slot c.args.slots 0 (to_file c.args.file.0) in
    rw (sym c.keep_entries.ensures) (passed_up _ _ _ _ c.from_residual-in_err-close.result c.in_err-close.field-0.0 c.from_residual-in_err-close.ensures.1
    (left_done {s = s} {t = s} (start_shell inner body) (λ child. say (close c.args.file.0) >> kept_child child) (c.in_ok-started.ensures)
    (left_saying _ _ (g.W.World.events c.close.new.world) s (close c.args.file.0) as_done (kept_child (started_of c.in_ok-started.started)) _ c.in_err-close.ensures)))

pub returns-in_err-keep_child-clause-does : goal.returns-in_err-keep_child-clause-does
returns-in_err-keep_child-clause-does g c =
    let body = cmd_tree c.args.body.now in
    let s = state_of c.keep_entries.new.state in
    let inner = with_slot c.args.slots 0 (to_file c.args.file.0) in
    rw (sym c.keep_entries.ensures) (passed_up _ _ _ _ c.from_residual-in_err-keep_child.result NoMemory c.from_residual-in_err-keep_child.ensures.1
    (left_done {s = s} {t = s} (start_shell inner body) (λ child. say (close c.args.file.0) >> kept_child child) (c.in_ok-started.ensures)
    (left_said _ _ _ s (close c.args.file.0) as_done (kept_child (started_of c.in_ok-started.started)) _ _ c.in_ok-close.ensures (left_here _ _ _ _ (ran_none _ _)))))

pub returns-clause-does : goal.returns-clause-does
returns-clause-does g c =
    let body = cmd_tree c.args.body.now in
    let s = state_of c.keep_entries.new.state in
    let inner = with_slot c.args.slots 0 (to_file c.args.file.0) in
    rw (sym c.keep_entries.ensures) (ran_do {s = s} {t = s} (start_shell inner body) (λ child. say (close c.args.file.0) >> kept_child child) (c.in_ok-started.ensures)
    (ran_said _ _ _ s (close c.args.file.0) as_done (kept_child (started_of c.in_ok-started.started)) _ _ c.in_ok-close.ensures
    (ran_as _ _ _ _ _ c.in_ok-keep_child.ensures.ok (ran_none _ _))))
