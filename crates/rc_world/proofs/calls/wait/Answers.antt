use Rattle.std.proofs.Common.{refl}
use Rattle.rc_world.proofs.Answered.{ending_comes}
use Rattle.rc_world.proofs.calls.wait.Goals as goal

pub returns : goal.returns
returns g c = ending_comes _ _ _ _ _ refl c.wait.ensures c.unless_refused.ensures
