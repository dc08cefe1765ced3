use Rattle.law_family.proofs.Steps.{never_both as the_law}
use Rattle.law_family.proofs.never_both.Goals as goal

pub returns : goal.returns
returns c = the_law
