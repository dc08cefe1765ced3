use Rattle.law_family.proofs.Starts.{one_start as the_law}
use Rattle.law_family.proofs.one_start.Goals as goal

pub returns : goal.returns
returns c = the_law
