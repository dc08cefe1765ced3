use Rattle.std.proofs.Common.{drop}
use Rattle.rc_model.specs.Run.FileNames.{expanded}
use Rattle.rc_model.specs.Run.State.{State}
use Rattle.rc_glob.proofs.Walks.{Collected}
use Rattle.rc_glob.proofs.expansion.expand_all.Given as goal

-- the words that are left are those that are still to be expanded
abbrev pub invariant-loop-word : goal.invariant-loop-word
invariant-loop-word g l = (s : State) → Collected (g.W.World.events l.fn.world) (g.W.World.events l.world) s (expanded l.words s) (expanded (drop l.word-index l.words) s) l.all
