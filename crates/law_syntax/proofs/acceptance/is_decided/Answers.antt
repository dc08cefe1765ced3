use Rattle.law_syntax.proofs.Decided as decided
use Rattle.law_syntax.proofs.acceptance.is_decided.Goals as goal

pub returns : goal.returns
returns c = decided.is_decided
