use Rattle.std.proofs.Common.{rules, ◌≡◌, ◌∷◌, [], length, string_bytes}
use Rattle.rc_model.specs.Run.State.{undefine}
use Rattle.rc_scope.specs.States.{state_of}
use Rattle.rc_machine.proofs.Defining.{all_undefined, one_undefined}
use Rattle.rc_machine.proofs.control.function_calls.undefine_each.Goals as goal

pub loop-name-preserved : goal.loop-name-preserved
loop-name-preserved c =
    let removed : state_of c.remove.new.self ≡ undefine (state_of c.loop-name.state) (string_bytes c.name-item.result ∷ []) = search rules in
    one_undefined c.args.names.now (state_of c.args.state.now) (state_of c.loop-name.state) c.loop-name.name-index c.loop-name.invariant
    c.name-item.result (state_of c.remove.new.self) c.loop-name-test.true c.name-item.is removed

pub returns : goal.returns
returns c =
    let e : c.loop-name.name-index ≡ length c.args.names.now = search rules in
    all_undefined c.args.names.now (state_of c.args.state.now) (state_of c.loop-name.state) c.loop-name.name-index c.loop-name.invariant e
