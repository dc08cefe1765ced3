use Rattle.std.proofs.Common.{◌≡◌, length}
use Rattle.rc_glob.specs.Hashes.{hash_from}
use Rattle.rc_glob.specs.Characters.{characters}
use Rattle.rc_glob.proofs.search.hash_of.Given as goal

abbrev pub invariant-run : goal.invariant-run
invariant-run l = hash_from l.hash (characters l.rest) ≡ hash_from 0 (characters l.run)

abbrev pub decreases-run : goal.decreases-run
decreases-run l = length l.rest
