use Rattle.law_family.proofs.Members.{one_at_a_time as the_law}
use Rattle.law_family.proofs.one_at_a_time.Goals as goal

pub returns : goal.returns
returns c = the_law
