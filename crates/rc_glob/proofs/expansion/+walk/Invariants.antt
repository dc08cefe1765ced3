use Rattle.std.proofs.Common.{◌+◌, ◌*◌, length, map, drop, string_bytes}
use Rattle.rc_model.specs.Run.FileNames.{components, each_name, walk}
use Rattle.rc_model.specs.Run.State.{State}
use Rattle.rc_text.specs.Literals.{marks}
use Rattle.rc_text.specs.Texts.{text_bytes}
use Rattle.rc_glob.specs.Paths.{paths_from}
use Rattle.rc_glob.proofs.Walks.{Collected}
use Rattle.rc_glob.proofs.expansion.+walk.Given as goal

-- the names that are left are those that are still to be walked
abbrev pub invariant-walk-loop-name : goal.invariant-walk-loop-name
invariant-walk-loop-name g l = (s : State) → Collected (g.W.World.events l.fn.world) (g.W.World.events l.world) s (paths_from (components (marks l.word)) (string_bytes l.fn.path) s)
    (each_name (walk (components (marks l.rest))) (string_bytes l.path) (map string_bytes (drop l.name-index l.name-items)) s) (map text_bytes l.found.items)

abbrev pub decreases-walk : goal.decreases-walk
decreases-walk g l = 2 * length l.word.now + 1

abbrev pub decreases-walk_on : goal.decreases-walk_on
decreases-walk_on g l = 2 * length l.rest.now + 2
