use Rattle.rc_trace.proofs.Made.{made_on}
use Rattle.rc_trace.proofs.trace_world.TraceWorldWorld.open.Goals as goal

pub invariant_of-self : goal.invariant_of-self
invariant_of-self g c = record { made = made_on _ _ _ _ _ _ _ _ c.args.self.now.made c.open-said.ensures c.of_file.ensures c.show.ensures.trail }
