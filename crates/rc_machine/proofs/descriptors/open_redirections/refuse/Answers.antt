use Rattle.std.proofs.Common.{rules, ◌≡◌}
use Rattle.rc_machine.proofs.Left.{step_refused}
use Rattle.rc_redir.specs.Opening.{redir_words}
use Rattle.rc_machine.proofs.descriptors.open_redirections.refuse.Goals as goal

pub returns-in_err-text-in-Fault : goal.returns-in_err-text-in-Fault
returns-in_err-text-in-Fault g c = rw c.in-Fault.is (step_refused _ _ _ c.from_residual.result c.from_residual.ensures.1)

pub returns-in_ok-text-in-Fault : goal.returns-in_ok-text-in-Fault
returns-in_ok-text-in-Fault g c =
    let text : c.deref.result.now ≡ redir_words c.in-Fault.fault = search rules in
    rw c.in-Fault.is (rw text at c.fail.ensures)
