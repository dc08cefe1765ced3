use Rattle.law_values.proofs.Split.{Splits-unique}
use Rattle.law_values.proofs.one_split.Goals as goal

pub returns : goal.returns
returns c = Splits-unique
