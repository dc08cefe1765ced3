use Rattle.std.proofs.Common.{refl}
use Rattle.rc_world.proofs.Answered.{child_comes}
use Rattle.rc_world.proofs.calls.start.Goals as goal

pub returns : goal.returns
returns g c = child_comes _ _ _ _ _ refl c.start.ensures c.unless_refused.ensures
