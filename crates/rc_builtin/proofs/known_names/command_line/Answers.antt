use Rattle.std.proofs.Common.{rules, ◌≡◌, None, length}
use Rattle.rc_model.specs.Run.Builtins.{builtin_named}
use Rattle.rc_model.specs.Run.State.{function_of}
use Rattle.rc_world.specs.declared.starts.Stop.TheVariants.{NoMemory}
use Rattle.rc_builtin.proofs.CommandLines.{ran_program, left_found, left_program}
use Rattle.rc_scope.specs.States.{state_of}
use Rattle.rc_world.proofs.Joins.{left_here, passed_up}
use Rattle.law_plans.proofs.Runs.{ran_none}
use Rattle.rc_builtin.proofs.known_names.command_line.Goals as goal

pub returns-in_err-body : goal.returns-in_err-body
returns-in_err-body g c = passed_up _ _ _ _ c.from_residual.result NoMemory c.from_residual.ensures.1 (left_here _ _ _ _ (ran_none _ _))

pub returns-in_err-function_line : goal.returns-in_err-function_line
returns-in_err-function_line g c = passed_up _ _ _ _ c.from_residual-in_err-function_line.result NoMemory c.from_residual-in_err-function_line.ensures.1 (left_here _ _ _ _ (ran_none _ _))

pub returns-in_err-builtin_line : goal.returns-in_err-builtin_line
returns-in_err-builtin_line g c = passed_up _ _ _ _ c.from_residual-in_err-builtin_line.result NoMemory c.from_residual-in_err-builtin_line.ensures.1 (left_here _ _ _ _ (ran_none _ _))

pub returns-in_err-path : goal.returns-in_err-path
returns-in_err-path g c =
    let s = state_of c.args.state.now in
    let name = c.args.name.now in
    let no_function : function_of s name ≡ None = search rules in
    let no_builtin : builtin_named name ≡ None = search rules in
    let unseen : length c.args.shown.now ≡ 0 = search rules in
    passed_up _ _ _ _ c.from_residual-in_err-path.result c.in_err-path.field-0.0 c.from_residual-in_err-path.ensures.1
    (left_program name c.args.shown.now s _ _ _ _ no_function no_builtin unseen _ c.in_err-path.ensures)

pub returns-in_err-program_line : goal.returns-in_err-program_line
returns-in_err-program_line g c =
    let s = state_of c.args.state.now in
    let name = c.args.name.now in
    let no_function : function_of s name ≡ None = search rules in
    let no_builtin : builtin_named name ≡ None = search rules in
    let unseen : length c.args.shown.now ≡ 0 = search rules in
    passed_up _ _ _ _ c.from_residual-in_err-program_line.result NoMemory c.from_residual-in_err-program_line.ensures.1
    (left_found name c.args.shown.now s _ _ _ _ no_function no_builtin unseen _ c.in_ok-path.ensures)

pub returns : goal.returns
returns g c =
    let s = state_of c.args.state.now in
    let name = c.args.name.now in
    let no_function : function_of s name ≡ None = search rules in
    let no_builtin : builtin_named name ≡ None = search rules in
    let unseen : length c.args.shown.now ≡ 0 = search rules in
    rw c.in_ok-program_line.ensures (ran_program name c.args.shown.now s _ _ _ _ no_function no_builtin unseen _ c.in_ok-path.ensures)
