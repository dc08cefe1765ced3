use Rattle.std.proofs.Common.{rules, ◌≡◌, Ok, map, string_bytes, subst}
use Rattle.std.proofs.lemmas.Result.{IfOk-weaker}
use Rattle.rc_text.specs.Texts.{text_bytes}
use Rattle.rc_model.specs.Mirrors.TreeOfText.{tree_of}
use Rattle.rc_model.specs.Run.Builtins.{as_body}
use Rattle.rc_model.specs.Syntax.Text.{spaced}
use Rattle.std.specs.Prelude.{IfSome}
use Rattle.rc_scope.specs.CompiledTexts.{IsCodeOfText}
use Rattle.rc_scope.specs.States.{state_of}
use Rattle.rc_builtin.specs.Outcomes.{RunsWords}
use Rattle.rc_builtin.specs.declared.command_words.Outcome.TheVariants as words
use Rattle.rc_builtin.proofs.Evals.{evaluated, kept_before}
use Rattle.rc_builtin.proofs.eval.eval.Goals as goal

pub returns-in-Some-clause-ok : goal.returns-in-Some-clause-ok
returns-in-Some-clause-ok c = λ recorded.
    let s = state_of c.args.state.now in
    let text = spaced (map text_bytes c.args.words.now) in
    let own : c.deref.result.now ≡ text = search rules in
    evaluated recorded s s text c.in-Some.body (kept_before s text c.deref.result.now c.in-Some.body own (subst (λ o. IfSome o (λ code. IsCodeOfText c.deref.result.now code)) c.in-Some.is c.in_ok-body.ensures))

pub returns-in-None-clause-ok : goal.returns-in-None-clause-ok
returns-in-None-clause-ok c =
    let s = state_of c.args.state.now in
    let joined : string_bytes c.in_ok-text.text ≡ spaced (map text_bytes c.args.words.now) = search rules in
    IfOk-weaker c.eval_new.result _ _
    (λ outcome h recorded. subst (λ x. RunsWords recorded recorded (as_body (tree_of x) s) (state_of c.eval_new.new.state) (Ok outcome)) joined (h recorded))
    c.eval_new.ensures.ok
