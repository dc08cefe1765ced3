use Rattle.std.proofs.Common.{refl}
use Rattle.rc_world.proofs.Answered.{names_comes}
use Rattle.rc_world.proofs.calls.list.Goals as goal

pub returns : goal.returns
returns g c = names_comes _ _ _ _ _ refl c.list.ensures c.unless_refused.ensures
