use Rattle.std.proofs.Common.{arith}
use Rattle.rc_glob.proofs.Cuts.{no_slash}
use Rattle.rc_glob.proofs.components.first_component.Goals as goal

pub loop-place-preserved : goal.loop-place-preserved
loop-place-preserved c = record {
  in_range = omega arith;
  same = no_slash _ _ _ c.loop-place-test.true c.if-word-place-eq47.false c.loop-place.invariant.same;
}
