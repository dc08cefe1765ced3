use Rattle.law_values.proofs.Select.{selected_by-is}
use Rattle.law_values.proofs.select_by_rule.Goals as goal

pub returns : goal.returns
returns c = selected_by-is
