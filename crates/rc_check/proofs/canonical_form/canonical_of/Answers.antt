use Rattle.rc_check.proofs.Laws.{never_accepted}
use Rattle.rc_check.proofs.canonical_form.canonical_of.Goals as goal

pub returns-in-Err-Fault : goal.returns-in-Err-Fault
returns-in-Err-Fault c = let refused = rw c.in-Err-Fault.field-0-is at c.in-Err-Fault.ensures.refused in never_accepted _ _ refused
