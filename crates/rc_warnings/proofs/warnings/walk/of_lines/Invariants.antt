use Rattle.rc_warnings.specs.Warnings.{AreIn}
use Rattle.rc_warnings.proofs.warnings.walk.of_lines.Given as goal

abbrev pub invariant-loop-place : goal.invariant-loop-place
invariant-loop-place l = AreIn l.script l.warnings.items
