use Rattle.std.proofs.Common.{map, string_bytes, ap, sym}
use Rattle.rc_text.specs.Texts.{text_bytes}
use Rattle.rc_model.specs.Handed.Image.{program_launch}
use Rattle.rc_model.specs.Run.Acts.{start_if_fit, wait_started}
use Rattle.rc_model.specs.Run.Shell.{leaves}
use Rattle.rc_world.specs.declared.starts.Stop.TheVariants.{NoMemory}
use Rattle.rc_scope.specs.States.{state_of}
use Rattle.rc_world.proofs.Joins.{left_as, left_here, passed_up, ran_as}
use Rattle.rc_world.proofs.Shells.{comes_next, left_under}
use Rattle.law_plans.proofs.Runs.{ran_none}
use Rattle.rc_pipes.proofs.programs.run_at.Goals as goal

pub returns-in_err-keep_entries-clause-does : goal.returns-in_err-keep_entries-clause-does
returns-in_err-keep_entries-clause-does g c = passed_up _ _ _ _ c.from_residual.result NoMemory c.from_residual.ensures.1 (left_here _ _ _ _ (ran_none _ _))

pub returns-in_err-launch-clause-does : goal.returns-in_err-launch-clause-does
returns-in_err-launch-clause-does g c = passed_up _ _ _ _ c.from_residual-in_err-launch.result NoMemory c.from_residual-in_err-launch.ensures.1 (left_here _ _ _ _ (ran_none _ _))

pub returns-in_err-child-clause-does : goal.returns-in_err-child-clause-does
returns-in_err-child-clause-does g c =
    let s = state_of c.keep_entries.new.state in
    let l = program_launch c.args.slots (string_bytes c.args.path) (map text_bytes c.args.args.items) s in
    rw (sym c.keep_entries.ensures) (passed_up _ _ _ _ c.from_residual-in_err-child.result c.in_err-child.field-0.0 c.from_residual-in_err-child.ensures.1
    (left_under _ _ _ (start_if_fit l s) (λ x t. wait_started c.args.slots c.args.name.now x t) leaves (left_as _ _ _ _ _ (ap (λ x. start_if_fit x s) (sym c.in_ok-launch.ensures)) (c.in_err-child.ensures s))))

pub returns-clause-does : goal.returns-clause-does
returns-clause-does g c =
    let s = state_of c.keep_entries.new.state in
    let l = program_launch c.args.slots (string_bytes c.args.path) (map text_bytes c.args.args.items) s in
    rw (sym c.keep_entries.ensures) (comes_next _ _ _ (start_if_fit l s) _ _ (λ x t. wait_started c.args.slots c.args.name.now x t) leaves _ c.wait_started.result
    (ran_as _ _ _ _ _ (ap (λ x. start_if_fit x s) (sym c.in_ok-launch.ensures)) (c.in_ok-child.ensures s)) c.wait_started.ensures.does)
