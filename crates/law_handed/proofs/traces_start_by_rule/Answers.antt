use Rattle.law_handed.proofs.Played.{traces_start_by_rule as the_law}
use Rattle.law_handed.proofs.traces_start_by_rule.Goals as goal

pub returns : goal.returns
returns c = the_law
