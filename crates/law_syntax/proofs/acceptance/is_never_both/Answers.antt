use Rattle.law_syntax.proofs.Decided as decided
use Rattle.law_syntax.proofs.acceptance.is_never_both.Goals as goal

pub returns : goal.returns
returns c = decided.never_both
