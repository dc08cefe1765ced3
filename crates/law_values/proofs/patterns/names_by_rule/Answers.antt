use Rattle.law_values.proofs.Traces.{expansion_by_trace}
use Rattle.law_values.proofs.patterns.names_by_rule.Goals as goal

pub returns : goal.returns
returns c = expansion_by_trace
