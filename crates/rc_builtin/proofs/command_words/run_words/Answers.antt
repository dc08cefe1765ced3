use Rattle.std.proofs.Common.{rules, ◌≡◌, List, [], ◌∷◌, length, map, refl, ap, arith}
use Rattle.std.specs.Prelude.{codes}
use Rattle.rc_text.specs.declared.texts.Text.{Text}
use Rattle.rc_text.specs.Texts.{text_bytes}
use Rattle.rc_model.specs.Run.Acts.{runtime_error}
use Rattle.rc_model.specs.Run.Builtins.{run_words}
use Rattle.rc_model.specs.Run.Shell.{exits, leaves}
use Rattle.law_plans.proofs.Runs.{ran_next, ran_none}
use Rattle.rc_world.proofs.Joins.{left_as, ran_as}
use Rattle.rc_world.proofs.Shells.{left_under}
use Rattle.rc_scope.specs.States.{state_of}
use Rattle.rc_builtin.proofs.Left.{words_left}
use Rattle.rc_builtin.proofs.command_words.run_words.Goals as goal

no_texts : (ss : List (Text)) → length ss ≡ 0 → map text_bytes ss ≡ []
no_texts [] h = refl
no_texts (s ∷ ss) h = absurd (omega (arith, h))

pub returns-in_err-runtime_error-clause-runs : goal.returns-in_err-runtime_error-clause-runs
returns-in_err-runtime_error-clause-runs g c =
    let s = state_of c.args.state.now in
    let none : length c.args.words.items ≡ 0 = search rules in
    words_left _ _ _ _ c.from_residual.result c.in_err-runtime_error.field-0.0 c.from_residual.ensures.1
    (left_as _ _ _ _ _ (ap (λ ws. run_words c.args.slots ws s) (no_texts c.args.words.items none))
    (left_under _ _ _ (runtime_error c.args.slots (codes "empty argument list") s) (λ x. exits) leaves c.in_err-runtime_error.ensures.does))

pub returns-in_default-clause-runs : goal.returns-in_default-clause-runs
returns-in_default-clause-runs g c =
    let s = state_of c.args.state.now in
    let none : length c.args.words.items ≡ 0 = search rules in
    ran_as _ _ _ _ _ (ap (λ ws. run_words c.args.slots ws s) (no_texts c.args.words.items none))
    (ran_next _ _ _ (runtime_error c.args.slots (codes "empty argument list") s) tt (state_of c.runtime_error.new.state) (λ x. exits) leaves _ c.in_ok-runtime_error.ensures.does (ran_none _ _))
