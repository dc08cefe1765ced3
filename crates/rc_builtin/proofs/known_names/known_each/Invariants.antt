use Rattle.std.proofs.Common.{drop, map, string_bytes}
use Rattle.rc_text.specs.Texts.{text_bytes}
use Rattle.rc_builtin.specs.Known.{status_of}
use Rattle.rc_scope.specs.States.{state_of}
use Rattle.rc_builtin.proofs.Gathered.{Gathers}
use Rattle.rc_builtin.proofs.known_names.known_each.Given as goal

abbrev pub invariant-loop-name : goal.invariant-loop-name
invariant-loop-name g l =
    Gathers (g.W.World.events l.initial.world) (g.W.World.events l.world) (map text_bytes l.names) (map text_bytes (drop l.name-index l.names)) (state_of l.state) (string_bytes l.lines) (status_of l.status)
