use Rattle.std.proofs.Common.{refl}
use Rattle.rc_world.proofs.Answered.{done_comes}
use Rattle.rc_world.proofs.calls.write.Goals as goal

pub returns : goal.returns
returns g c = done_comes _ _ _ _ _ refl c.write.ensures c.was_done.ensures
