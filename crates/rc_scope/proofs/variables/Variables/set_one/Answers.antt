use Rattle.std.proofs.Common.{◌∷◌, [], refl, map, reverse, List, ℕ, ap, ◌∙◌}
use Rattle.std.proofs.lemmas.Result.{on_ok_weaker}
use Rattle.std.specs.Map.{lookup}
use Rattle.rc_model.specs.Run.State.{covered, put_values}
use Rattle.rc_text.specs.Texts.{text_bytes}
use Rattle.rc_text.specs.declared.texts.Text.{Text}
use Rattle.rc_scope.specs.Rows.{is_named}
use Rattle.rc_scope.specs.declared.variables.value_rows.Value.{Value}
use Rattle.rc_scope.specs.Stacks.{stacks_of, stack_in, variable_of, covers_in}
use Rattle.rc_scope.proofs.Stacks.{written_if_there}
use Rattle.rc_scope.proofs.variables.Variables.set_one.Goals as goal

pub returns-in_default-clause-ok : goal.returns-in_default-clause-ok
unfolding stacks_of
returns-in_default-clause-ok c =
    let locals = reverse c.args.self.now.log.items in
    let q = c.args.name.now in
    let es = c.args.self.now.values in
    let new : Value = record { texts = c.args.text ∷ []; covers = covers_in q es } in
    ap (map (variable_of locals)) c.in_default.ensures.new
    ∙ written_if_there locals q new es (lookup (is_named q) es) c.write_one.ensures.ordered refl refl c.in_default.ensures.found

pub returns-clause-ok : goal.returns-clause-ok
unfolding stacks_of
returns-clause-ok c =
    let locals = reverse c.args.self.now.log.items in
    let q = c.args.name.now in
    let es = c.args.self.now.values in
    let put = λ (vs : List (List ℕ × List (List (List ℕ)))) (ts : List Text). put_values vs q (map text_bytes ts ∷ covered (stack_in vs q)) in
    on_ok_weaker c.set.result
    (λ h. h ∙ ap (λ fs. put (map (variable_of locals) fs) c.in_ok-texts.texts) c.in-Err.ensures.same
    ∙ ap (put (map (variable_of locals) es)) (c.in_ok-texts.ensures ∙ ap (λ t. t ∷ []) c.in-Err.ensures.back))
    c.set.ensures.ok
