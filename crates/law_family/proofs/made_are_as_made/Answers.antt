use Rattle.law_family.proofs.Steps.{as_made as the_law}
use Rattle.law_family.proofs.made_are_as_made.Goals as goal

pub returns : goal.returns
returns c = the_law
