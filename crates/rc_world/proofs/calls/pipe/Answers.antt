use Rattle.std.proofs.Common.{refl}
use Rattle.rc_world.proofs.Answered.{pair_comes}
use Rattle.rc_world.proofs.calls.pipe.Goals as goal

pub returns : goal.returns
returns g c = pair_comes _ _ _ _ _ refl c.pipe.ensures c.unless_refused.ensures
