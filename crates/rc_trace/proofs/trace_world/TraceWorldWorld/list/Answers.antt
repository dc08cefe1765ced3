use Rattle.rc_trace.proofs.Made.{made_on}
use Rattle.rc_trace.proofs.trace_world.TraceWorldWorld.list.Goals as goal

pub invariant_of-self : goal.invariant_of-self
invariant_of-self g c = record { made = made_on _ _ _ _ _ _ _ _ c.args.self.now.made c.list-said.ensures c.of_names.ensures c.show.ensures.trail }
