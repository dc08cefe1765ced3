use Rattle.std.proofs.Common.{subst}
use Rattle.rc_scope.specs.Copies.{AreCopies}
use Rattle.rc_scope.specs.Rows.{entries_of}
use Rattle.rc_scope.proofs.Copies.{rows_are, rows_copied}
use Rattle.rc_scope.proofs.variables.value_rows.Values.copy.Goals as goal

pub invariant_of-result : goal.invariant_of-result
invariant_of-result c = rows_are 0 _ _ c.in_ok-clone.ensures.cases.0 c.self.invariant

pub returns : goal.returns
returns c = subst (λ es. AreCopies es (entries_of c.in_ok-clone.field-0.items)) c.self.view_is (rows_copied _ _ c.in_ok-clone.ensures.cases.0)
