use Rattle.std.proofs.Common.{arith}
use Rattle.rc_shell.proofs.Givens.{given_more}
use Rattle.rc_shell.proofs.family.given_answers.answers_of.Goals as goal

pub loop-step-preserved : goal.loop-step-preserved
loop-step-preserved c =
    let inside = c.loop-step-test.true in
    given_more c.args.process c.loop-step.step-index c.args.steps.now c.step-item.result c.loop-step.answers.items c.push_answer.new.answers.items
    (omega (arith, inside)) c.step-item.is c.loop-step.invariant c.in_ok-push_answer.ensures
