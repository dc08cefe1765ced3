use Rattle.rc_shell.proofs.Stands.{holds_alone}
use Rattle.rc_shell.proofs.family.Family.new.Goals as goal

pub invariant_of-result : goal.invariant_of-result
invariant_of-result c = holds_alone _ _ _ _ _ _ c.in_ok-alone.ensures c.new.ensures.items c.in_ok-first.ensures.ok
