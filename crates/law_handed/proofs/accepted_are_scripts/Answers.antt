use Rattle.law_handed.proofs.Characters.{accepted_are_scripts as the_law}
use Rattle.law_handed.proofs.accepted_are_scripts.Goals as goal

pub returns : goal.returns
returns c = the_law
