use Rattle.law_syntax.proofs.Laws as laws
use Rattle.law_syntax.proofs.is_too_deep.Goals as goal

pub returns : goal.returns
returns c = laws.is_too_deep
