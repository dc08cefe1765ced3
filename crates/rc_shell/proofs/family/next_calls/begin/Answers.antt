use Rattle.std.proofs.Common.{map, refl, ap}
use Rattle.std.proofs.lemmas.Result.{err_from_is_err_and}
use Rattle.rc_scope.specs.States.{state_of}
use Rattle.rc_tree.specs.View.{cmd_tree}
use Rattle.rc_world.specs.Views.{answer_of}
use Rattle.rc_shell.proofs.Advances.{begins_at, begins_not}
use Rattle.rc_shell.proofs.family.next_calls.begin.Goals as goal

pub returns-in_err-pending-clause-err : goal.returns-in_err-pending-clause-err
returns-in_err-pending-clause-err c =
    let h = begins_not c.args.limit (cmd_tree c.args.cmd) (state_of c.args.state) (map answer_of c.new.result.items) (ap (map answer_of) c.new.ensures.items) c.in_err-pending.field-0.0 c.in_err-pending.ensures.err in
    let e = err_from_is_err_and c.from_residual.result c.from_residual.ensures.1 in
    rw (e.1, e.2) h

pub returns-clause-ok : goal.returns-clause-ok
returns-clause-ok c = record {
  tree = refl;
  state = refl;
  proper = c.requires;
  at = begins_at c.args.limit (cmd_tree c.args.cmd) (state_of c.args.state) (map answer_of c.new.result.items) (ap (map answer_of) c.new.ensures.items) c.in_ok-pending.pending c.in_ok-pending.ensures.ok;
}
