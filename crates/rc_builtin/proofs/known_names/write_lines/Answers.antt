use Rattle.std.proofs.Common.{rules, ◌≡◌, length, string_bytes}
use Rattle.rc_model.specs.Run.Builtins.{met}
use Rattle.rc_world.specs.declared.starts.Stop.TheVariants.{NoMemory}
use Rattle.rc_builtin.specs.Known.{status_of}
use Rattle.rc_builtin.proofs.Written.{after_writing, ran_no_lines, ran_lines, left_lines}
use Rattle.rc_scope.specs.States.{state_of}
use Rattle.rc_world.proofs.Joins.{left_here, passed_up}
use Rattle.law_plans.proofs.Runs.{ran_none}
use Rattle.rc_builtin.proofs.known_names.write_lines.Goals as goal

pub returns-in_err-set_status-clause-does : goal.returns-in_err-set_status-clause-does
returns-in_err-set_status-clause-does g c = passed_up _ _ _ _ c.from_residual.result NoMemory c.from_residual.ensures.1 (left_here _ _ _ _ (ran_none _ _))

pub returns-then-is_empty-clause-does : goal.returns-then-is_empty-clause-does
returns-then-is_empty-clause-does g c =
    let lines = string_bytes c.args.known.now.lines in
    let status = status_of c.args.known.now.status in
    let none : length lines ≡ 0 = search rules in
    let text : c.status_after.result.now ≡ met status = c.status_after.ensures in
    rw (c.in_ok-set_status.ensures.ok, text) (ran_no_lines c.args.slots lines status (state_of c.args.state.now) _ none)

pub returns-in_err-written-clause-does : goal.returns-in_err-written-clause-does
returns-in_err-written-clause-does g c =
    let lines = string_bytes c.args.known.now.lines in
    let status = status_of c.args.known.now.status in
    let some : length lines ≡ 0 → ⊥ = λ z. absurd (search (rules, z)) in
    let text : c.as_bytes.result.now ≡ lines = c.as_bytes.ensures.value in
    passed_up _ _ _ _ c.from_residual-in_err-written.result c.in_err-written.field-0.0 c.from_residual-in_err-written.ensures.1
    (left_lines c.args.slots lines status (state_of c.args.state.now) _ _ _ some (rw text at c.in_err-written.ensures))

pub returns-in_err-set_status-2-clause-does : goal.returns-in_err-set_status-2-clause-does
returns-in_err-set_status-2-clause-does g c =
    let lines = string_bytes c.args.known.now.lines in
    let status = status_of c.args.known.now.status in
    let some : length lines ≡ 0 → ⊥ = λ z. absurd (search (rules, z)) in
    let text : c.as_bytes.result.now ≡ lines = c.as_bytes.ensures.value in
    passed_up _ _ _ _ c.from_residual-in_err-set_status-2.result NoMemory c.from_residual-in_err-set_status-2.ensures.1
    (left_here _ _ _ _ (ran_lines c.args.slots lines status (state_of c.args.state.now) _ _ c.in_ok-written.written some (rw text at c.in_ok-written.ensures)))

pub returns-clause-does : goal.returns-clause-does
returns-clause-does g c =
    let lines = string_bytes c.args.known.now.lines in
    let status = status_of c.args.known.now.status in
    let some : length lines ≡ 0 → ⊥ = λ z. absurd (search (rules, z)) in
    let text : c.as_bytes.result.now ≡ lines = c.as_bytes.ensures.value in
    let after : c.status_after-2.result.now ≡ after_writing status c.in_ok-written.written = c.status_after-2.ensures in
    rw (c.in_ok-set_status-2.ensures.ok, after) (ran_lines c.args.slots lines status (state_of c.args.state.now) _ _ c.in_ok-written.written some (rw text at c.in_ok-written.ensures))
