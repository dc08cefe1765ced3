use Rattle.law_family.proofs.Read.{families_read as the_law}
use Rattle.law_family.proofs.families_read.Goals as goal

pub returns : goal.returns
returns c = the_law
