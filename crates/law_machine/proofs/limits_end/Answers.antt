use Rattle.law_machine.proofs.Limits as limits
use Rattle.law_machine.proofs.limits_end.Goals as goal

pub returns : goal.returns
returns c = limits.limits_end
