use Rattle.std.proofs.Common.{drop, map, string_bytes}
use Rattle.rc_scope.specs.States.{state_of}
use Rattle.rc_tree.specs.View.{cmd_tree}
use Rattle.rc_machine.proofs.Defining.{DefinesLeft}
use Rattle.rc_machine.proofs.control.function_calls.define_each.Given as goal

-- the names that are left are still to be defined
abbrev pub invariant-loop-name : goal.invariant-loop-name
invariant-loop-name l =
    DefinesLeft (map string_bytes l.names) (map string_bytes (drop l.name-index l.names)) (cmd_tree l.body.value) (state_of l.initial.state) (state_of l.state)
