use Rattle.law_handed.proofs.Played.{ends_are_proper as the_law}
use Rattle.law_handed.proofs.ends_are_proper.Goals as goal

pub returns : goal.returns
returns c = the_law
