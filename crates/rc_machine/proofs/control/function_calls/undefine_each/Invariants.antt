use Rattle.std.proofs.Common.{◌≡◌, drop, map, string_bytes}
use Rattle.rc_model.specs.Run.State.{undefine}
use Rattle.rc_scope.specs.States.{state_of}
use Rattle.rc_machine.proofs.control.function_calls.undefine_each.Given as goal

-- the names that are left are still to be taken away
abbrev pub invariant-loop-name : goal.invariant-loop-name
invariant-loop-name l =
    undefine (state_of l.initial.state) (map string_bytes l.names) ≡ undefine (state_of l.state) (map string_bytes (drop l.name-index l.names))
