use Rattle.rc_trace.proofs.Made.{made_on}
use Rattle.rc_trace.proofs.trace_world.TraceWorldWorld.probe.Goals as goal

pub invariant_of-self : goal.invariant_of-self
invariant_of-self g c = record { made = made_on _ _ _ _ _ _ _ _ c.args.self.now.made c.probe-said.ensures c.of_kind.ensures c.show.ensures.trail }
