use Rattle.std.proofs.Common.{◌≡◌, length}
use Rattle.rc_glob.specs.Hashes.{scale_from}
use Rattle.rc_glob.specs.Characters.{characters}
use Rattle.rc_glob.proofs.search.scale_of.Given as goal

abbrev pub invariant-run : goal.invariant-run
invariant-run l = scale_from l.scale (characters l.rest) ≡ scale_from 1 (characters l.run)

abbrev pub decreases-run : goal.decreases-run
decreases-run l = length l.rest
