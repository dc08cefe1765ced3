use Rattle.law_handed.proofs.Played.{scripts_read_back as the_law}
use Rattle.law_handed.proofs.scripts_read_back.Goals as goal

pub returns : goal.returns
returns c = the_law
