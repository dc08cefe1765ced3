use Rattle.rc_glob.proofs.Hashes.{hash_next}
use Rattle.rc_glob.proofs.search.hash_of.Goals as goal

pub run-preserved : goal.run-preserved
run-preserved c = hash_next _ _ _ _ _ _ c.in-Some.ensures.cases.0 c.add_char-hash.ensures c.run.invariant
