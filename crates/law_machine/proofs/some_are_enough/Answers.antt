use Rattle.law_machine.proofs.Limits as limits
use Rattle.law_machine.proofs.some_are_enough.Goals as goal

pub returns : goal.returns
returns c = limits.some_are_enough
