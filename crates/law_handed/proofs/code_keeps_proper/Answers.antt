use Rattle.law_handed.proofs.Keeping.{code_keeps_proper as the_law}
use Rattle.law_handed.proofs.code_keeps_proper.Goals as goal

pub returns : goal.returns
returns c = the_law
