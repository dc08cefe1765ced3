use Rattle.rc_process.proofs.Leaving.{unused_none}
use Rattle.rc_process.proofs.leaving_for.Goals as goal

pub returns-in_default-clause-unused : goal.returns-in_default-clause-unused
returns-in_default-clause-unused c = λ tree taken read. unused_none c.never.result tree c.never.ensures
