use Rattle.std.proofs.Common.{drop}
use Rattle.rc_pipes.specs.Starts.{paths_in}
use Rattle.rc_model.specs.Run.Acts.{first_program}
use Rattle.rc_model.specs.Run.Plans.{RanBetween}
use Rattle.rc_model.specs.Run.State.{State}
use Rattle.rc_pipes.proofs.programs.first_program.Given as goal

-- the search has come to the directories that are left
abbrev pub invariant-loop-dir : goal.invariant-loop-dir
invariant-loop-dir g l = (s : State) →
    RanBetween (g.W.World.events l.initial.world) (g.W.World.events l.world) (first_program (paths_in l.name l.dirs) s)
    (first_program (paths_in l.name (drop l.dir-index l.dirs)) s)
