use Rattle.law_machine.proofs.Ends.{agrees}
use Rattle.law_machine.proofs.machine_agrees.Goals as goal

pub returns : goal.returns
returns c = agrees
