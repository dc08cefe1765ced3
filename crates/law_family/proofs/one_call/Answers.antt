use Rattle.law_family.proofs.Steps.{one_call as the_law}
use Rattle.law_family.proofs.one_call.Goals as goal

pub returns : goal.returns
returns c = the_law
