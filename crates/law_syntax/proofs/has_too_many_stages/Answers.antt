use Rattle.law_syntax.proofs.Laws as laws
use Rattle.law_syntax.proofs.has_too_many_stages.Goals as goal

pub returns : goal.returns
returns c = laws.has_too_many_stages
