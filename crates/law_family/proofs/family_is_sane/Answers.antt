use Rattle.law_family.proofs.Members.{family_is_sane as the_law}
use Rattle.law_family.proofs.family_is_sane.Goals as goal

pub returns : goal.returns
returns c = the_law
