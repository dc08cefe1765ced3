use Rattle.std.proofs.Common.{rules, ◌≡◌, ◌++◌, string_bytes}
use Rattle.rc_model.specs.Run.Builtins.{value_line}
use Rattle.rc_model.specs.Run.State.{value_of}
use Rattle.rc_world.specs.declared.starts.Stop.TheVariants.{NoMemory}
use Rattle.rc_builtin.specs.Known.{known}
use Rattle.rc_builtin.proofs.CommandLines.{ran_known, left_known, left_command}
use Rattle.rc_scope.specs.States.{state_of}
use Rattle.rc_world.proofs.Joins.{left_here, passed_up}
use Rattle.law_plans.proofs.Runs.{ran_none}
use Rattle.rc_builtin.proofs.known_names.known_of.Goals as goal

pub returns-in_err-lines : goal.returns-in_err-lines
returns-in_err-lines g c = passed_up _ _ _ _ c.from_residual.result NoMemory c.from_residual.ensures.1 (left_here _ _ _ _ (ran_none _ _))

pub returns-in_err-command : goal.returns-in_err-command
returns-in_err-command g c =
    let s = state_of c.args.state.now in
    let name = c.args.name.now in
    let shown : c.deref.result.now ≡ value_line name (value_of s name) = search rules in
    passed_up _ _ _ _ c.from_residual-in_err-command.result c.in_err-command.field-0.0 c.from_residual-in_err-command.ensures.1
    (left_command name c.deref.result.now s shown _ _ _ c.in_err-command.ensures)

pub returns-in_err-push_str : goal.returns-in_err-push_str
returns-in_err-push_str g c =
    let s = state_of c.args.state.now in
    let name = c.args.name.now in
    let shown : c.deref.result.now ≡ value_line name (value_of s name) = search rules in
    passed_up _ _ _ _ c.from_residual-in_err-push_str.result NoMemory c.from_residual-in_err-push_str.ensures.1
    (left_known name c.deref.result.now s shown _ _ (known c.in_ok-command.command) c.in_ok-command.ensures)

pub returns : goal.returns
returns g c =
    let s = state_of c.args.state.now in
    let name = c.args.name.now in
    let shown : c.deref.result.now ≡ value_line name (value_of s name) = search rules in
    let lines : string_bytes c.push_str.new.self ≡ c.deref.result.now ++ string_bytes c.in_ok-command.command.lines = search rules in
    ran_known name c.deref.result.now s shown _ _ (known c.in_ok-command.command) _ c.in_ok-command.ensures lines
