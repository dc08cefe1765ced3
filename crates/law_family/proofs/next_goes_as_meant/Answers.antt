use Rattle.law_family.proofs.Steps.{next_goes_as_meant as the_law}
use Rattle.law_family.proofs.next_goes_as_meant.Goals as goal

pub returns : goal.returns
returns c = the_law
