use Rattle.std.proofs.Common.{rules, ◌≡◌, ◌∷◌, ◌∙◌, None, Ok, Some, ap, map, sym}
use Rattle.std.specs.Prelude.{codes}
use Rattle.rc_text.specs.Texts.{text_bytes}
use Rattle.rc_model.specs.Run.Builtins.{dot}
use Rattle.rc_model.specs.Run.State.{with_status}
use Rattle.rc_builtin.specs.Files.{got_of}
use Rattle.rc_world.specs.declared.starts.Stop.TheVariants.{NoMemory}
use Rattle.rc_world.proofs.Joins.{left_as}
use Rattle.rc_scope.specs.States.{state_of}
use Rattle.rc_builtin.proofs.Evals.{left_file, not_opened, not_read, runs_file}
use Rattle.rc_builtin.proofs.Left.{words_left}
use Rattle.rc_builtin.proofs.dot.dot.Goals as goal

pub returns-in_err-file-clause-runs : goal.returns-in_err-file-clause-runs
returns-in_err-file-clause-runs g c =
    let s = state_of c.args.state.now in
    let args = map text_bytes c.in-Some.args.items in
    let named : c.as_str.result.now ≡ text_bytes c.in-Some.name = search rules in
    words_left _ _ _ _ c.from_residual-in_err-file.result c.in_err-file.field-0.0 c.from_residual-in_err-file.ensures.1
    (left_as _ _ _ _ _ (ap (λ ws. dot (map text_bytes ws) s) c.in-Some.ensures.some) (rw named at (c.in_err-file.ensures args)))

pub returns-in_err-set_status-clause-runs : goal.returns-in_err-set_status-clause-runs
returns-in_err-set_status-clause-runs g c =
    let s = state_of c.args.state.now in
    let args = map text_bytes c.in-Some.args.items in
    let named : c.as_str.result.now ≡ text_bytes c.in-Some.name = search rules in
    words_left _ _ _ _ c.from_residual-in_err-set_status.result NoMemory c.from_residual-in_err-set_status.ensures.1
    (left_file _ _ s (map text_bytes c.args.words.items) c.as_str.result.now args (ap (map text_bytes) c.in-Some.ensures.some ∙ ap (λ x. x ∷ args) (sym named))
    c.in_ok-file.field-0 (c.in_ok-file.ensures args))

pub returns-in_default-2-clause-runs : goal.returns-in_default-2-clause-runs
returns-in_default-2-clause-runs g c =
    let s = state_of c.args.state.now in
    let args = map text_bytes c.in-Some.args.items in
    let named : c.as_str.result.now ≡ text_bytes c.in-Some.name = search rules in
    let none : c.in_ok-file.field-0 ≡ None = search rules in
    let set : state_of c.set_status.new.self ≡ with_status s (codes "cannot open") = search rules in
    not_opened _ _ s (map text_bytes c.args.words.items) c.as_str.result.now args (ap (map text_bytes) c.in-Some.ensures.some ∙ ap (λ x. x ∷ args) (sym named))
    c.in_ok-file.field-0 (c.in_ok-file.ensures args) (state_of c.set_status.new.self) none set

pub returns-in_err-set_status-2-clause-runs : goal.returns-in_err-set_status-2-clause-runs
returns-in_err-set_status-2-clause-runs g c =
    let s = state_of c.args.state.now in
    let args = map text_bytes c.in-Some.args.items in
    let named : c.as_str.result.now ≡ text_bytes c.in-Some.name = search rules in
    words_left _ _ _ _ c.from_residual-in_err-set_status-2.result NoMemory c.from_residual-in_err-set_status-2.ensures.1
    (left_file _ _ s (map text_bytes c.args.words.items) c.as_str.result.now args (ap (map text_bytes) c.in-Some.ensures.some ∙ ap (λ x. x ∷ args) (sym named))
    c.in_ok-file.field-0 (c.in_ok-file.ensures args))

pub returns-in-Some-why-clause-runs : goal.returns-in-Some-why-clause-runs
returns-in-Some-why-clause-runs g c =
    let s = state_of c.args.state.now in
    let args = map text_bytes c.in-Some.args.items in
    let named : c.as_str.result.now ≡ text_bytes c.in-Some.name = search rules in
    let because : (got_of c.in-Some-2.file).why ≡ Some c.in-Some-why.why.now = search rules in
    let set : state_of c.set_status-in-Some-why.new.self ≡ with_status s c.in-Some-why.why.now = search rules in
    not_read _ _ s (map text_bytes c.args.words.items) c.as_str.result.now args (ap (map text_bytes) c.in-Some.ensures.some ∙ ap (λ x. x ∷ args) (sym named))
    c.in_ok-file.field-0 (c.in_ok-file.ensures args) c.in-Some-2.file c.in-Some-2.is c.in-Some-why.why.now (state_of c.set_status-in-Some-why.new.self) because set

pub returns-in_err-run_read-clause-runs : goal.returns-in_err-run_read-clause-runs
returns-in_err-run_read-clause-runs g c =
    let s = state_of c.args.state.now in
    let args = map text_bytes c.in-Some.args.items in
    let named : c.as_str.result.now ≡ text_bytes c.in-Some.name = search rules in
    words_left _ _ _ _ c.from_residual-in_err-run_read.result NoMemory c.from_residual-in_err-run_read.ensures.1
    (left_file _ _ s (map text_bytes c.args.words.items) c.as_str.result.now args (ap (map text_bytes) c.in-Some.ensures.some ∙ ap (λ x. x ∷ args) (sym named))
    c.in_ok-file.field-0 (c.in_ok-file.ensures args))

pub returns-clause-runs : goal.returns-clause-runs
returns-clause-runs g c =
    let s = state_of c.args.state.now in
    let args = map text_bytes c.in-Some.args.items in
    let named : c.as_str.result.now ≡ text_bytes c.in-Some.name = search rules in
    let none : (got_of c.in-Some-2.file).why ≡ None = search rules in
    let after = g.W.World.events c.read_file.new.world in
    let t = state_of c.run_read.new.state in
    runs_file _ _ s (map text_bytes c.args.words.items) c.as_str.result.now args (ap (map text_bytes) c.in-Some.ensures.some ∙ ap (λ x. x ∷ args) (sym named))
    c.in_ok-file.field-0 (c.in_ok-file.ensures args) c.in-Some-2.file c.in-Some-2.is after t (Ok c.in_ok-run_read.field-0) none
    (c.in_ok-run_read.ensures.ok after)
