use Rattle.std.proofs.Common.{map}
use Rattle.rc_text.specs.Texts.{text_bytes}
use Rattle.rc_model.specs.Run.Builtins.{finished, known_each, write_lines}
use Rattle.rc_model.specs.Run.Shell.{leaves}
use Rattle.rc_builtin.specs.Known.{known}
use Rattle.rc_pipes.proofs.Changes.{comes_finished}
use Rattle.rc_scope.specs.States.{state_of}
use Rattle.rc_world.proofs.Joins.{passed_up}
use Rattle.rc_world.proofs.Shells.{comes_next, left_under}
use Rattle.rc_builtin.proofs.known_names.whatis.Goals as goal

pub returns-in_err-known-clause-does : goal.returns-in_err-known-clause-does
returns-in_err-known-clause-does g c =
    let s = state_of c.args.state.now in
    passed_up _ _ _ _ c.from_residual.result c.in_err-known.field-0.0 c.from_residual.ensures.1
    (left_under _ _ _ (known_each (map text_bytes c.args.names.now) s) (λ k t. finished (write_lines c.args.slots k.0 k.1) t) leaves c.in_err-known.ensures)

pub returns-clause-does : goal.returns-clause-does
returns-clause-does g c =
    let s = state_of c.args.state.now in
    let k = known c.in_ok-known.known in
    comes_next _ _ _ (known_each (map text_bytes c.args.names.now) s) k s (λ k t. finished (write_lines c.args.slots k.0 k.1) t) leaves _ c.write_lines.result c.in_ok-known.ensures
    (comes_finished _ _ (write_lines c.args.slots k.0 k.1) s _ c.write_lines.result c.write_lines.ensures.does)
