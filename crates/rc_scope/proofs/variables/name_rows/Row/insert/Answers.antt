use Rattle.rc_scope.proofs.Rows.{one_key}
use Rattle.rc_scope.proofs.variables.name_rows.Row.insert.Goals as goal

pub returns-in-Empty-clause-ordered : goal.returns-in-Empty-clause-ordered
returns-in-Empty-clause-ordered c = one_key c.in_ok-new.field-0.value.name
