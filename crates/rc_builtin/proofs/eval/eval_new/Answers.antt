use Rattle.std.proofs.Common.{rules, ◌≡◌, ◌∙◌, Result, Ok, Err, OnErr, string_bytes, subst}
use Rattle.rc_model.specs.Mirrors.TreeOfText.{tree_of}
use Rattle.rc_model.specs.Run.Builtins.{as_body}
use Rattle.rc_scope.specs.States.{state_of}
use Rattle.rc_builtin.specs.Outcomes.{RunsWords}
use Rattle.rc_builtin.specs.Scripts.{Compiles}
use Rattle.rc_builtin.specs.declared.command_words.Outcome.TheVariants as words
use Rattle.rc_builtin.proofs.Evals.{evaluated, kept_of, not_evaluated, same_state}
use Rattle.rc_builtin.proofs.eval.eval_new.Goals as goal

-- what holds, holds at an error
at_error : {T E : Type 0} (P : Type 0) (r : Result T E) → P → OnErr r P
at_error P (Ok x) h = tt
at_error P (Err e) h = h

pub keep_code-requires : goal.keep_code-requires
keep_code-requires c =
    let s = state_of c.args.state.now in
    let t = state_of c.compiled.new.state in
    let text = c.as_bytes.result.now in
    let own : text ≡ string_bytes c.args.text = search rules in
    let made = c.in_ok-body.ensures.ok text c.compile_script.ensures in
    kept_of s t text (string_bytes c.args.text) c.in-Some.body own (subst (λ o. Compiles text s t o) c.in-Some.is made)

pub returns-in_err-keep_code-in-Some-clause-err : goal.returns-in_err-keep_code-in-Some-clause-err
returns-in_err-keep_code-in-Some-clause-err c =
    let s = state_of c.args.state.now in
    let t = state_of c.compiled.new.state in
    let text = c.as_bytes.result.now in
    let made = c.in_ok-body.ensures.ok text c.compile_script.ensures in
    at_error _ c.from_residual-in_err-keep_code-in-Some.result (c.keep_code.ensures ∙ same_state s t text c.in-Some.body (subst (λ o. Compiles text s t o) c.in-Some.is made))

pub returns-in_ok-keep_code-in-Some-clause-ok : goal.returns-in_ok-keep_code-in-Some-clause-ok
returns-in_ok-keep_code-in-Some-clause-ok c = λ recorded.
    let s = state_of c.args.state.now in
    let t = state_of c.compiled.new.state in
    let text = c.as_bytes.result.now in
    let own : text ≡ string_bytes c.args.text = search rules in
    let made = c.in_ok-body.ensures.ok text c.compile_script.ensures in
    rw c.keep_code.ensures (subst (λ x. RunsWords recorded recorded (as_body (tree_of x) s) t (Ok (words.Body c.in-Some.body))) own
    (evaluated recorded s t text c.in-Some.body (subst (λ o. Compiles text s t o) c.in-Some.is made)))

pub returns-in-None-clause-ok : goal.returns-in-None-clause-ok
returns-in-None-clause-ok c = λ recorded.
    let s = state_of c.args.state.now in
    let t = state_of c.compiled.new.state in
    let text = c.as_bytes.result.now in
    let own : text ≡ string_bytes c.args.text = search rules in
    let made = c.in_ok-body.ensures.ok text c.compile_script.ensures in
    subst (λ x. RunsWords recorded recorded (as_body (tree_of x) s) t (Ok words.Finished)) own
    (not_evaluated recorded s t text (subst (λ o. Compiles text s t o) c.in-None.is made))
