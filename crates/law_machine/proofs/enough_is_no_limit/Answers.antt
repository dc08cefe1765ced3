use Rattle.law_machine.proofs.Limits as limits
use Rattle.law_machine.proofs.enough_is_no_limit.Goals as goal

pub returns : goal.returns
returns c = limits.enough_is_no_limit
