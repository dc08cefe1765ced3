use Rattle.std.proofs.Common.{map}
use Rattle.rc_text.specs.Texts.{text_bytes}
use Rattle.rc_model.specs.Run.Acts.{find_program, run_found}
use Rattle.rc_model.specs.Run.Shell.{leaves}
use Rattle.rc_scope.specs.States.{state_of}
use Rattle.rc_world.proofs.Joins.{passed_up}
use Rattle.rc_world.proofs.Shells.{comes_next, left_under}
use Rattle.rc_pipes.proofs.programs.run_program.Goals as goal

pub returns-in_err-path-clause-does : goal.returns-in_err-path-clause-does
returns-in_err-path-clause-does g c =
    passed_up _ _ _ _ c.from_residual.result c.in_err-path.field-0.0 c.from_residual.ensures.1
    (left_under _ _ _ (find_program c.args.name.now (state_of c.args.state.now)) (λ path s. run_found c.args.slots c.args.name.now (map text_bytes c.args.args.items) path s) leaves c.in_err-path.ensures)

pub returns-clause-does : goal.returns-clause-does
returns-clause-does g c =
    comes_next _ _ _ (find_program c.args.name.now (state_of c.args.state.now)) _ _ (λ path s. run_found c.args.slots c.args.name.now (map text_bytes c.args.args.items) path s) leaves _ c.run_found.result
    c.in_ok-path.ensures c.run_found.ensures.does
