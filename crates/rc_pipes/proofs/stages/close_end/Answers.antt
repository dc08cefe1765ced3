use Rattle.rc_model.specs.Run.Calls.{close, as_done}
use Rattle.rc_model.specs.Run.Plans.{done_with}
use Rattle.rc_model.specs.Run.Shell.{Next}
use Rattle.rc_world.proofs.Joins.{left_asked, passed_up, ran_answered}
use Rattle.law_plans.proofs.Runs.{ran_none}
use Rattle.rc_pipes.proofs.stages.close_end.Goals as goal

pub returns-in_default : goal.returns-in_default
returns-in_default g c = λ s. rw c.in_default.is (ran_none _ _)

pub returns-in_err-close : goal.returns-in_err-close
returns-in_err-close g c = λ s.
    rw c.in-Some.is (passed_up _ _ _ _ c.from_residual.result c.in_err-close.field-0.0 c.from_residual.ensures.1
    (left_asked _ _ _ (close c.in-Some.end.0) as_done (λ d. done_with (Next tt s)) c.in_err-close.ensures))

pub returns : goal.returns
returns g c = λ s.
    rw c.in-Some.is (ran_answered _ _ _ (close c.in-Some.end.0) as_done _ (λ d. done_with (Next tt s)) _ c.in_ok-close.ensures (ran_none _ _))
