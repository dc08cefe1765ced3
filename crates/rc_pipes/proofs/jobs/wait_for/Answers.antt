use Rattle.std.proofs.Common.{rules, ◌≡◌, [], ◌∷◌, Some, ap, ◌∙◌}
use Rattle.rc_model.specs.Run.Builtins.{finished, wait_for, wait_numbered, wait_one}
use Rattle.rc_model.specs.Run.Numbers.{number_of}
use Rattle.rc_scope.specs.States.{state_of}
use Rattle.rc_world.specs.declared.starts.Stop.TheVariants.{NoMemory}
use Rattle.rc_world.proofs.Joins.{comes_as, left_here, passed_up}
use Rattle.law_plans.proofs.Runs.{ran_none}
use Rattle.rc_pipes.specs.Jobs.{arguments_of}
use Rattle.rc_pipes.proofs.InOrder.{finishes}
use Rattle.rc_pipes.proofs.jobs.wait_for.Goals as goal

pub returns-in_err-misuse-clause-does : goal.returns-in_err-misuse-clause-does
returns-in_err-misuse-clause-does g c =
    passed_up _ _ _ _ c.from_residual.result NoMemory c.from_residual.ensures.1 (left_here _ _ _ _ (ran_none _ _))

pub returns-clause-does : goal.returns-clause-does
returns-clause-does g c =
    let s = state_of c.args.state.now in
    let n = c.in-Some-number_of.number in
    let given : arguments_of c.args.number ≡ c.in-Some.text.now ∷ [] = ap arguments_of c.in-Some.is in
    let number : number_of c.in-Some.text.now ≡ Some n = search rules in
    comes_as _ _ (wait_for (arguments_of c.args.number) s) (finished (wait_one n s) s) _ _
    (ap (λ words. wait_for words s) given ∙ ap (λ m. wait_numbered m s) number)
    (finishes _ _ s (state_of c.wait_one.new.state) (wait_one n s) c.wait_one.result c.wait_one.ensures.does)
