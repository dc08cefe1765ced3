use Rattle.law_values.proofs.Computed.{matches-is}
use Rattle.law_values.proofs.patterns.matches_by_rule.Goals as goal

pub returns : goal.returns
returns c = matches-is
