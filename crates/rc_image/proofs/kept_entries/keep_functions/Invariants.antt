use Rattle.std.proofs.Common.{◌≡◌}
use Rattle.rc_scope.specs.States.{state_of}
use Rattle.rc_image.proofs.kept_entries.keep_functions.Given as goal

-- the state stays as it is
abbrev pub invariant-loop-name : goal.invariant-loop-name
invariant-loop-name l = state_of l.state ≡ state_of l.fn.state
