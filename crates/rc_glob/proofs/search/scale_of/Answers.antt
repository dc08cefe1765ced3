use Rattle.std.proofs.Common.{rules}
use Rattle.rc_glob.proofs.Hashes.{scale_next}
use Rattle.rc_glob.proofs.search.scale_of.Goals as goal

pub run-preserved : goal.run-preserved
run-preserved c = scale_next _ _ _ _ _ _ c.in-Some.ensures.cases.0 (search rules) c.run.invariant
