use Rattle.rc_model.specs.Run.Calls.{answers}
use Rattle.law_family.proofs.Outcome.{one_outcome as not_both, one_pending}
use Rattle.law_machine.proofs.Turns.{turns_go_on}
use Rattle.law_family.proofs.one_outcome.Goals as goal

pub returns : goal.returns
returns c = λ p d w. (not_both p (turns_go_on p.tree p.state (answers p.trace)) d w, λ e v. one_pending p (turns_go_on p.tree p.state (answers p.trace)) d e w v)
