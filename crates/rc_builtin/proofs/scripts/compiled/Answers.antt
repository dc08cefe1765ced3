use Rattle.std.proofs.Common.{rules, ◌≡◌, ap, ◌∙◌}
use Rattle.std.specs.Prelude.{codes}
use Rattle.rc_builtin.proofs.Evals.{code_in, compiles_by, fault_of, refuses}
use Rattle.rc_model.specs.Run.State.{with_status}
use Rattle.rc_scope.specs.States.{state_of}
use Rattle.rc_builtin.proofs.scripts.compiled.Goals as goal

pub returns-in-Ok-clause-ok : goal.returns-in-Ok-clause-ok
returns-in-Ok-clause-ok c = λ text made.
    compiles_by (state_of c.args.state.now) text c.in-Ok.code (code_in text c.args.made c.in-Ok.code c.in-Ok.is made)

pub returns-in_ok-set_status-in-Err-Fault-clause-ok : goal.returns-in_ok-set_status-in-Err-Fault-clause-ok
returns-in_ok-set_status-in-Err-Fault-clause-ok c = λ text made.
    let e : state_of c.set_status.new.self ≡ with_status (state_of c.args.state.now) (codes "syntax error") = search rules in
    refuses (state_of c.args.state.now) text (state_of c.set_status.new.self) c.in-Err-Fault.field-0-0 (fault_of text c.args.made c.in-Err-Fault.field-0-0 (search rules) made) e
