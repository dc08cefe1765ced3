use Rattle.std.proofs.Common.{map}
use Rattle.rc_text.specs.Texts.{text_bytes}
use Rattle.rc_model.specs.Run.Acts.{run_program}
use Rattle.rc_model.specs.Run.Builtins.{Finished}
use Rattle.rc_model.specs.Run.Shell.{leaves, pure}
use Rattle.law_plans.proofs.Runs.{ran_next, ran_none}
use Rattle.rc_world.proofs.Shells.{left_under}
use Rattle.rc_scope.specs.States.{state_of}
use Rattle.rc_builtin.proofs.Left.{words_left}
use Rattle.rc_builtin.proofs.builtins.run_as_program.Goals as goal

pub returns-in_err-run_program-clause-runs : goal.returns-in_err-run_program-clause-runs
returns-in_err-run_program-clause-runs g c =
    words_left _ _ _ _ c.from_residual.result c.in_err-run_program.field-0.0 c.from_residual.ensures.1
    (left_under _ _ _ (run_program c.args.slots c.args.name.now (map text_bytes c.args.args.items) (state_of c.args.state.now)) (λ x. pure Finished) leaves
    c.in_err-run_program.ensures.does)

pub returns-clause-runs : goal.returns-clause-runs
returns-clause-runs g c =
    ran_next _ _ _ (run_program c.args.slots c.args.name.now (map text_bytes c.args.args.items) (state_of c.args.state.now)) tt (state_of c.run_program.new.state)
    (λ x. pure Finished) leaves _ c.in_ok-run_program.ensures.does (ran_none _ _)
