use Rattle.std.proofs.Common.{refl}
use Rattle.rc_world.proofs.Answered.{kind_comes}
use Rattle.rc_world.proofs.calls.probe.Goals as goal

pub returns : goal.returns
returns g c = kind_comes _ _ _ _ _ refl c.probe.ensures c.unless_refused.ensures
