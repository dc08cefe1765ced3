use Rattle.law_family.proofs.Members.{one_per_start as the_law}
use Rattle.law_family.proofs.one_per_start.Goals as goal

pub returns : goal.returns
returns c = the_law
