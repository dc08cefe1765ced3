use Rattle.law_syntax.proofs.Decided as decided
use Rattle.law_syntax.proofs.acceptance.accepted_are_well_formed.Goals as goal

pub returns : goal.returns
returns c = decided.accepted_formed
