use Rattle.rc_world.proofs.Joins.{given_up, left_join}
use Rattle.law_plans.proofs.Runs.{ran_join}
use Rattle.rc_scope.specs.States.{state_of}
use Rattle.rc_builtin.proofs.dot.read_file.Goals as goal

pub returns-in_err-file : goal.returns-in_err-file
returns-in_err-file g c = λ args.
    given_up _ _ _ _ c.from_residual.result c.in_err-file.field-0.0 c.from_residual.ensures.1 (c.in_err-file.ensures args)

pub returns-in_default : goal.returns-in_default
returns-in_default g c = λ args. rw c.in_default.is at (c.in_ok-file.ensures args)

pub returns-in_err-read : goal.returns-in_err-read
returns-in_err-read g c = λ args.
    given_up _ _ _ _ c.from_residual-in_err-read.result c.in_err-read.field-0.0 c.from_residual-in_err-read.ensures.1
    (left_join _ _ _ _ _ _ (rw c.in-Some.is at (c.in_ok-file.ensures args)) (c.in_err-read.ensures args (state_of c.args.state.now)))

pub returns : goal.returns
returns g c = λ args.
    ran_join _ _ _ _ _ _ (rw c.in-Some.is at (c.in_ok-file.ensures args)) (c.in_ok-read.ensures args (state_of c.args.state.now))
