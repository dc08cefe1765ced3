use Rattle.law_syntax.proofs.FirstFault as first
use Rattle.law_syntax.proofs.acceptance.faultless_is_accepted.Goals as goal

pub returns : goal.returns
returns c = first.faultless_is_accepted
