use Rattle.law_handed.proofs.Played.{traces_end_proper as the_law}
use Rattle.law_handed.proofs.traces_end_proper.Goals as goal

pub returns : goal.returns
returns c = the_law
