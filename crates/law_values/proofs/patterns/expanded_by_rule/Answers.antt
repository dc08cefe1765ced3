use Rattle.law_values.proofs.Words.{expanded-is}
use Rattle.law_values.proofs.patterns.expanded_by_rule.Goals as goal

pub returns : goal.returns
returns c = expanded-is
