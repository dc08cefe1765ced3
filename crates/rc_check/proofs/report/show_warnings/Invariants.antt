use Rattle.rc_check.specs.Positions.{IsReachedPlace}
use Rattle.rc_check.proofs.report.show_warnings.Given as goal

abbrev pub invariant-loop-warning : goal.invariant-loop-warning
invariant-loop-warning l = IsReachedPlace l.script l.reached
