use Rattle.law_family.proofs.Starts.{each_start_makes as the_law}
use Rattle.law_family.proofs.each_start_makes.Goals as goal

pub returns : goal.returns
returns c = the_law
