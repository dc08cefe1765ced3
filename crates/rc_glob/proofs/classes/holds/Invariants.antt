use Rattle.std.proofs.Common.{◌≡◌, length}
use Rattle.rc_model.specs.Run.Patterns.{holds}
use Rattle.rc_text.specs.Literals.{marks}
use Rattle.rc_glob.proofs.classes.holds.Given as goal

abbrev pub invariant-loop-first : goal.invariant-loop-first
invariant-loop-first l = holds (marks l.members) l.c ≡ holds (marks l.rest) l.c

abbrev pub decreases-loop-first : goal.decreases-loop-first
decreases-loop-first l = length l.rest
