use Rattle.std.proofs.Common.{rules, ◌≡◌, ◌∙◌, ap, subst, map, Some, None}
use Rattle.rc_text.specs.Texts.{text_bytes}
use Rattle.rc_model.specs.Run.Builtins.{builtin_named, without_functions}
use Rattle.rc_scope.specs.States.{state_of}
use Rattle.rc_builtin.specs.Words.{BeginsOther}
use Rattle.rc_builtin.proofs.Left.{unnamed_past, words_as}
use Rattle.rc_builtin.proofs.builtins.run_without_functions.Goals as goal

pub run_builtin-requires : goal.run_builtin-requires
run_builtin-requires g c =
    let builtin : builtin_named (text_bytes c.in-Some.name) ≡ Some c.in-Some-named.builtin = search rules in
    λ e. subst (λ ws. BeginsOther (map text_bytes ws)) c.in-Some.ensures.some c.past_builtins.ensures.other (builtin ∙ ap Some e)

pub returns-in-Some-named-clause-runs : goal.returns-in-Some-named-clause-runs
returns-in-Some-named-clause-runs g c =
    let s = state_of c.args.state.now in
    let slots = c.args.slots in
    let words = map text_bytes c.args.words.items in
    let left = map text_bytes c.past_builtins.result.items in
    let name = text_bytes c.in-Some.name in
    let args = map text_bytes c.in-Some.args.items in
    let builtin : builtin_named name ≡ Some c.in-Some-named.builtin = search rules in
    words_as _ _ _ _ _ _
    (ap (λ m. m s) (unnamed_past slots words left name args _ (c.past_builtins.ensures.same slots) (ap (map text_bytes) c.in-Some.ensures.some) builtin))
    (c.run_builtin.ensures.runs (without_functions slots args))

pub returns-clause-runs : goal.returns-clause-runs
returns-clause-runs g c =
    let s = state_of c.args.state.now in
    let slots = c.args.slots in
    let words = map text_bytes c.args.words.items in
    let left = map text_bytes c.past_builtins.result.items in
    let name = text_bytes c.in-Some.name in
    let args = map text_bytes c.in-Some.args.items in
    let named : c.as_str-in-None.result.now ≡ name = search rules in
    let other : builtin_named name ≡ None = search rules in
    words_as _ _ _ _ _ _
    (ap (λ m. m s) (unnamed_past slots words left name args None (c.past_builtins.ensures.same slots) (ap (map text_bytes) c.in-Some.ensures.some) other))
    (rw named at c.run_as_program.ensures.runs)
