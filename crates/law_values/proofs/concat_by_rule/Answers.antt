use Rattle.law_values.proofs.Join.{concatenated-is}
use Rattle.law_values.proofs.concat_by_rule.Goals as goal

pub returns : goal.returns
returns c = concatenated-is
