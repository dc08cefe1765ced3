use Rattle.rc_process.proofs.Leaving.{unused_none}
use Rattle.rc_process.proofs.covered_by.Goals as goal

pub returns-in-Err : goal.returns-in-Err
returns-in-Err c = λ tree taken read. unused_none c.never.result tree c.never.ensures
