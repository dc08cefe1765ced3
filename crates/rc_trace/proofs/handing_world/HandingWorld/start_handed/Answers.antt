use Rattle.std.proofs.Common.{inl, rules, sym}
use Rattle.rc_trace.proofs.handing_world.HandingWorld.start_handed.Goals as goal

pub returns-in-Ok : goal.returns-in-Ok
returns-in-Ok g c = record {
  passed = inl (_, rw (sym c.saturating_add-self.ensures) c.in-Ok.ensures, c.start.ensures);
  names = search rules;
}
