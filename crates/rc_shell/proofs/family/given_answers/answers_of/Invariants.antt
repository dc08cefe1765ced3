use Rattle.std.proofs.Common.{◌≡◌, map, take}
use Rattle.rc_model.specs.Family.Steps.{answers_at}
use Rattle.rc_shell.specs.Standings.{step_of}
use Rattle.rc_world.specs.Views.{answer_of}
use Rattle.rc_shell.proofs.family.given_answers.answers_of.Given as goal

abbrev pub invariant-loop-step : goal.invariant-loop-step
invariant-loop-step l = map answer_of l.answers.items ≡ answers_at l.process (map step_of (take l.step-index l.steps))
