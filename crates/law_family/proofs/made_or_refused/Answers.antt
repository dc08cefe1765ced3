use Rattle.law_family.proofs.Steps.{made_or_refused as the_law}
use Rattle.law_family.proofs.made_or_refused.Goals as goal

pub returns : goal.returns
returns c = the_law
