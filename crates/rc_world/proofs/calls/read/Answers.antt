use Rattle.std.proofs.Common.{refl}
use Rattle.rc_world.proofs.Answered.{bytes_comes}
use Rattle.rc_world.proofs.calls.read.Goals as goal

pub returns-clause-came : goal.returns-clause-came
returns-clause-came g c = bytes_comes _ _ _ _ _ refl c.read.ensures.bound c.read.ensures.recorded c.unless_refused.ensures
