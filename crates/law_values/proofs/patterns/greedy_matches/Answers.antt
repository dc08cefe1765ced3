use Rattle.law_values.proofs.Going.{greedy-is}
use Rattle.law_values.proofs.patterns.greedy_matches.Goals as goal

pub returns : goal.returns
returns c = greedy-is
