use Rattle.law_family.proofs.Faults.{one_fault as the_law}
use Rattle.law_family.proofs.one_fault.Goals as goal

pub returns : goal.returns
returns c = the_law
