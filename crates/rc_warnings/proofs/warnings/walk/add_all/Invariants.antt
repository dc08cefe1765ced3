use Rattle.rc_warnings.specs.Warnings.{AreIn}
use Rattle.rc_warnings.proofs.warnings.walk.add_all.Given as goal

abbrev pub invariant-loop-index : goal.invariant-loop-index
invariant-loop-index l = AreIn l.script l.warnings.items
