use Rattle.law_values.proofs.Unique.{one_expansion}
use Rattle.law_values.proofs.patterns.one_expansion.Goals as goal

pub returns : goal.returns
returns c = one_expansion
