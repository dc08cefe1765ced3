use Rattle.law_syntax.proofs.FirstFault as first
use Rattle.law_syntax.proofs.acceptance.fault_refuses.Goals as goal

pub returns : goal.returns
returns c = first.fault_refuses
