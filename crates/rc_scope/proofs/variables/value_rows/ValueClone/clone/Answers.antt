use Rattle.std.proofs.Common.{refl}
use Rattle.rc_scope.proofs.variables.value_rows.ValueClone.clone.Goals as goal

pub returns : goal.returns
returns c = record { cases = (c.in_ok-clone.ensures.cases, refl) }
