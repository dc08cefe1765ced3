use Rattle.std.proofs.Common.{◌≡◌, drop, map, string_bytes}
use Rattle.rc_model.specs.Run.Builtins.{first_dir}
use Rattle.rc_model.specs.Run.Plans.{RanBetween}
use Rattle.rc_scope.specs.States.{state_of}
use Rattle.rc_builtin.proofs.directories.first_dir.Given as goal

-- the directories so far were refused, and the others are left
abbrev pub invariant-loop-dir : goal.invariant-loop-dir
invariant-loop-dir g l =
    RanBetween (g.W.World.events l.initial.world) (g.W.World.events l.world) (first_dir (map string_bytes l.dirs) (state_of l.initial.state)) (first_dir (map string_bytes (drop l.dir-index l.dirs)) (state_of l.initial.state))
    × (state_of l.state ≡ state_of l.initial.state)
