use Rattle.std.proofs.Common.{Some, None}
use Rattle.std.specs.Prelude.{codes}
use Rattle.rc_model.specs.Run.Acts.{background_with}
use Rattle.rc_model.specs.Run.Calls.{open_file, as_file}
use Rattle.rc_model.specs.declared.call.Mode.TheVariants.{Read}
use Rattle.rc_scope.specs.States.{state_of}
use Rattle.rc_tree.specs.View.{cmd_tree}
use Rattle.rc_world.specs.declared.starts.Stop.TheVariants.{NoMemory}
use Rattle.rc_world.proofs.Joins.{comes_answered, left_answered, left_asked, left_here, passed_up, ran_answered}
use Rattle.law_plans.proofs.Runs.{ran_none}
use Rattle.rc_pipes.proofs.jobs.background.Goals as goal

pub returns-in_err-file-clause-does : goal.returns-in_err-file-clause-does
returns-in_err-file-clause-does g c =
    let body = cmd_tree c.args.body.now in
    let s = state_of c.args.state.now in
    passed_up _ _ _ _ c.from_residual.result c.in_err-file.field-0.0 c.from_residual.ensures.1
    (left_asked _ _ _ (open_file (codes "/dev/null") Read) as_file (λ file. background_with c.args.slots body file s) c.in_err-file.ensures)

pub returns-in_err-set_status-clause-does : goal.returns-in_err-set_status-clause-does
returns-in_err-set_status-clause-does g c =
    let body = cmd_tree c.args.body.now in
    let s = state_of c.args.state.now in
    passed_up _ _ _ _ c.from_residual-in_err-set_status.result NoMemory c.from_residual-in_err-set_status.ensures.1
    (left_answered _ _ _ _ (open_file (codes "/dev/null") Read) as_file None (λ file. background_with c.args.slots body file s)
    (rw c.in_default.is at c.in_ok-file.ensures) (left_here _ _ _ _ (ran_none _ _)))

pub returns-in_default-clause-does : goal.returns-in_default-clause-does
returns-in_default-clause-does g c =
    let body = cmd_tree c.args.body.now in
    let s = state_of c.args.state.now in
    rw c.in_ok-set_status.ensures.ok
    (ran_answered _ _ _ (open_file (codes "/dev/null") Read) as_file None (λ file. background_with c.args.slots body file s) _
    (rw c.in_default.is at c.in_ok-file.ensures) (ran_none _ _))

pub returns-clause-does : goal.returns-clause-does
returns-clause-does g c =
    let body = cmd_tree c.args.body.now in
    let s = state_of c.args.state.now in
    comes_answered _ _ _ (open_file (codes "/dev/null") Read) as_file (Some c.in-Some.file.0) (λ file. background_with c.args.slots body file s) _ c.background_with.result
    (rw c.in-Some.is at c.in_ok-file.ensures) (c.background_with.ensures.does)
