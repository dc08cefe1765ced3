use Rattle.law_family.proofs.Starts.{one_child as the_law}
use Rattle.law_family.proofs.one_child.Goals as goal

pub returns : goal.returns
returns c = the_law
