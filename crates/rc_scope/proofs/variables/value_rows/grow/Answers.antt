use Rattle.std.proofs.Common.{refl}
use Rattle.rc_scope.proofs.Rows.{grows}
use Rattle.rc_scope.proofs.variables.value_rows.grow.Goals as goal

pub loop-rows-preserved : goal.loop-rows-preserved
loop-rows-preserved c = rw c.in_ok-push.ensures.items (grows _ _ _ refl c.loop-rows.invariant)
