use Rattle.std.proofs.Common.{rules, ◌≡◌, ap, map}
use Rattle.rc_text.specs.Texts.{text_bytes}
use Rattle.rc_model.specs.Run.Acts.{run_program}
use Rattle.rc_model.specs.Run.Builtins.{exec}
use Rattle.rc_model.specs.Run.Shell.{exits, leaves}
use Rattle.law_plans.proofs.Runs.{ran_next, ran_none}
use Rattle.rc_world.proofs.Joins.{left_as, ran_as}
use Rattle.rc_world.proofs.Shells.{left_under}
use Rattle.rc_scope.specs.States.{state_of}
use Rattle.rc_builtin.proofs.Left.{words_left}
use Rattle.rc_builtin.proofs.exec.exec.Goals as goal

pub returns-in_err-run_program-clause-runs : goal.returns-in_err-run_program-clause-runs
returns-in_err-run_program-clause-runs g c =
    let s = state_of c.args.state.now in
    let name = text_bytes c.in-Some.name in
    let args = map text_bytes c.in-Some.args.items in
    let named : c.as_str.result.now ≡ name = search rules in
    words_left _ _ _ _ c.from_residual-in_err-run_program.result c.in_err-run_program.field-0.0 c.from_residual-in_err-run_program.ensures.1
    (left_as _ _ _ _ _ (ap (λ ws. exec c.args.slots (map text_bytes ws) s) c.in-Some.ensures.some)
    (left_under _ _ _ (run_program c.args.slots name args s) (λ x. exits) leaves (rw named at c.in_err-run_program.ensures.does)))

pub returns-clause-runs : goal.returns-clause-runs
returns-clause-runs g c =
    let s = state_of c.args.state.now in
    let name = text_bytes c.in-Some.name in
    let args = map text_bytes c.in-Some.args.items in
    let named : c.as_str.result.now ≡ name = search rules in
    ran_as _ _ _ _ _ (ap (λ ws. exec c.args.slots (map text_bytes ws) s) c.in-Some.ensures.some)
    (ran_next _ _ _ (run_program c.args.slots name args s) tt (state_of c.run_program.new.state) (λ x. exits) leaves _
    (rw named at c.in_ok-run_program.ensures.does) (ran_none _ _))
