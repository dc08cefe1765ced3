use Rattle.std.proofs.Common.{rules, ◌≡◌, [], ◌∷◌, ◌++◌, List, ℕ, map, string_bytes}
use Rattle.rc_model.specs.Run.Acts.{wait_each, stages_status, set_status, StartedStages, Refused}
use Rattle.rc_model.specs.Run.Shell.{Shell, ◌>>◌, pure}
use Rattle.rc_world.specs.declared.starts.Stop.TheVariants.{NoMemory}
use Rattle.rc_scope.specs.Children.{child_numbers}
use Rattle.rc_scope.specs.States.{state_of}
use Rattle.rc_world.proofs.Joins.{left_here, passed_up}
use Rattle.rc_world.proofs.Shells.{left_do, left_done, ran_do}
use Rattle.law_plans.proofs.Runs.{ran_none}
use Rattle.rc_pipes.proofs.child_statuses.end_refused.Goals as goal

abbrev joined : List ℕ → List (List ℕ) → Shell StartedStages
joined why statuses = set_status (stages_status (statuses ++ why ∷ [])) >> pure Refused

pub returns-in_err-statuses-clause-does : goal.returns-in_err-statuses-clause-does
returns-in_err-statuses-clause-does g c =
    let s = state_of c.args.state.now in
    let numbers = child_numbers c.args.children.now in
    passed_up _ _ _ _ c.from_residual.result c.in_err-statuses.field-0.0 c.from_residual.ensures.1
    (left_do {s = s} (wait_each numbers) (joined c.args.why.now) (c.in_err-statuses.ensures s))

pub returns-in_err-status-clause-does : goal.returns-in_err-status-clause-does
returns-in_err-status-clause-does g c =
    let s = state_of c.args.state.now in
    let numbers = child_numbers c.args.children.now in
    passed_up _ _ _ _ c.from_residual-in_err-status.result NoMemory c.from_residual-in_err-status.ensures.1
    (left_done {s = s} {t = s} (wait_each numbers) (joined c.args.why.now) (c.in_ok-statuses.ensures s) (left_here _ _ _ _ (ran_none _ _)))

pub returns-in_err-set_status-clause-does : goal.returns-in_err-set_status-clause-does
returns-in_err-set_status-clause-does g c =
    let s = state_of c.args.state.now in
    let numbers = child_numbers c.args.children.now in
    passed_up _ _ _ _ c.from_residual-in_err-set_status.result NoMemory c.from_residual-in_err-set_status.ensures.1
    (left_done {s = s} {t = s} (wait_each numbers) (joined c.args.why.now) (c.in_ok-statuses.ensures s) (left_here _ _ _ _ (ran_none _ _)))

pub returns-clause-does : goal.returns-clause-does
returns-clause-does g c =
    let s = state_of c.args.state.now in
    let numbers = child_numbers c.args.children.now in
    let text : c.deref-2.result.now ≡ stages_status (map string_bytes c.in_ok-statuses.statuses.items ++ c.args.why.now ∷ []) = search rules in
    rw (c.in_ok-set_status.ensures.ok, text)
    (ran_do {s = s} {t = s} (wait_each numbers) (joined c.args.why.now) (c.in_ok-statuses.ensures s) (ran_none _ _))
