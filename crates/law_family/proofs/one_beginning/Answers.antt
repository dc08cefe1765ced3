use Rattle.law_family.proofs.Steps.{one_beginning as the_law}
use Rattle.law_family.proofs.one_beginning.Goals as goal

pub returns : goal.returns
returns c = the_law
