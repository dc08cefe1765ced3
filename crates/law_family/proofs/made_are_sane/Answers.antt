use Rattle.law_family.proofs.Steps.{sane as the_law}
use Rattle.law_family.proofs.made_are_sane.Goals as goal

pub returns : goal.returns
returns c = the_law
