use Rattle.std.proofs.Common.{drop, map, string_bytes}
use Rattle.rc_model.specs.Run.Builtins.{open_first}
use Rattle.rc_model.specs.Run.Plans.{RanBetween}
use Rattle.rc_model.specs.Run.State.{State}
use Rattle.rc_pipes.proofs.command_files.open_first.Given as goal

-- none of the paths so far opened, and the others are left
abbrev pub invariant-loop-path : goal.invariant-loop-path
invariant-loop-path g l =
    (s : State) → RanBetween (g.W.World.events l.initial.world) (g.W.World.events l.world)
    (open_first (map string_bytes l.paths) s) (open_first (map string_bytes (drop l.path-index l.paths)) s)
