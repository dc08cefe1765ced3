use Rattle.std.proofs.Common.{refl}
use Rattle.rc_world.proofs.Answered.{file_comes}
use Rattle.rc_world.proofs.calls.here.Goals as goal

pub returns : goal.returns
returns g c = file_comes _ _ _ _ _ refl c.here.ensures c.unless_refused.ensures
