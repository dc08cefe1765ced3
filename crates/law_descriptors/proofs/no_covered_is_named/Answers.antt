use Rattle.law_descriptors.proofs.Covered.{no_covered_is_named as the_law}
use Rattle.law_descriptors.proofs.no_covered_is_named.Goals as goal

pub returns : goal.returns
returns c = the_law
