use Rattle.std.proofs.Common.{rules, ◌≡◌, string_bytes}
use Rattle.rc_model.specs.Run.Acts.{ending_status}
use Rattle.rc_model.specs.Run.Calls.{wait, as_ending}
use Rattle.rc_model.specs.Run.Plans.{done_with}
use Rattle.rc_model.specs.Run.Shell.{Next}
use Rattle.rc_world.specs.declared.starts.Stop.TheVariants.{NoMemory}
use Rattle.rc_world.proofs.Joins.{left_answered, left_asked, left_here, passed_up, ran_answered}
use Rattle.law_plans.proofs.Runs.{ran_none}
use Rattle.rc_pipes.proofs.child_statuses.wait_child.Goals as goal

pub returns-in_err-ending : goal.returns-in_err-ending
returns-in_err-ending g c = λ s.
    passed_up _ _ _ _ c.from_residual.result c.in_err-ending.field-0.0 c.from_residual.ensures.1
    (left_asked _ _ _ (wait c.args.child.0) as_ending (λ e. done_with (Next (ending_status e) s)) c.in_err-ending.ensures)

pub returns-in_err-status : goal.returns-in_err-status
returns-in_err-status g c = λ s.
    passed_up _ _ _ _ c.from_residual-in_err-status.result NoMemory c.from_residual-in_err-status.ensures.1
    (left_answered _ _ _ _ (wait c.args.child.0) as_ending _ (λ e. done_with (Next (ending_status e) s)) c.in_ok-ending.ensures (left_here _ _ _ _ (ran_none _ _)))

pub returns : goal.returns
returns g c =
    let text : string_bytes c.in_ok-status.status ≡ ending_status c.in_ok-ending.ending = search rules in
    λ s. rw text (ran_answered _ _ _ (wait c.args.child.0) as_ending _ (λ e. done_with (Next (ending_status e) s)) _ c.in_ok-ending.ensures (ran_none _ _))
