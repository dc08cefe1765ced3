use Rattle.law_values.proofs.Split.{split-is}
use Rattle.law_values.proofs.split_by_rule.Goals as goal

pub returns : goal.returns
returns c = split-is
