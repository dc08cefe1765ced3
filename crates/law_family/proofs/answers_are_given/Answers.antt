use Rattle.law_family.proofs.Grow.{answers_given as the_law}
use Rattle.law_family.proofs.answers_are_given.Goals as goal

pub returns : goal.returns
returns c = the_law
