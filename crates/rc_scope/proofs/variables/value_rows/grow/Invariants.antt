use Rattle.std.proofs.Common.{◌+◌, ◌-◌, length}
use Rattle.rc_scope.specs.Rows.{Grows}
use Rattle.rc_scope.proofs.variables.value_rows.grow.Given as goal

-- only empty rows were added
abbrev pub invariant-loop-rows : goal.invariant-loop-rows
invariant-loop-rows l = Grows l.fn.rows.items l.rows.items

abbrev pub decreases-loop-rows : goal.decreases-loop-rows
decreases-loop-rows l = l.row + 1 - length l.rows.items
