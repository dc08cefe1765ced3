use Rattle.std.proofs.Common.{arith}
use Rattle.rc_glob.proofs.Widths.{front_ends, front_goes_on, front_whole}
use Rattle.rc_glob.proofs.stars.plain_front.Goals as goal

pub loop-place-preserved : goal.loop-place-preserved
loop-place-preserved c = record {
  in_range = omega arith;
  same = front_goes_on _ _ _ c.loop-place-test.true _ c.is_pattern.ensures c.if-is_pattern.false c.loop-place.invariant.same;
}

pub returns-then-is_pattern : goal.returns-then-is_pattern
returns-then-is_pattern c = front_ends _ _ _ c.loop-place-test.true _ c.is_pattern.ensures c.if-is_pattern.true c.loop-place.invariant.same

pub returns : goal.returns
returns c = front_whole _ _ c.loop-place-test.false c.loop-place.invariant.same
