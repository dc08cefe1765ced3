use Rattle.std.proofs.Common.{◌≡◌, ◌∷◌, [], ◌++◌, map, reverse, List, ℕ, Option, subst, sym, ap, ◌∙◌}
use Rattle.std.proofs.lemmas.Result.{on_ok_weaker}
use Rattle.std.specs.Option.{MatchOption}
use Rattle.rc_model.specs.Run.State.{visible, covered, put_values}
use Rattle.rc_text.specs.Texts.{text_bytes}
use Rattle.rc_text.specs.declared.texts.Text.{Text}
use Rattle.rc_scope.specs.Stacks.{stacks_of, stack_in, variable_of, Appends, Returns}
use Rattle.rc_scope.proofs.Stacks.{appended, shows_none}
use Rattle.rc_scope.proofs.variables.Variables.append.Goals as goal

pub returns-in_default-clause-ok : goal.returns-in_default-clause-ok
unfolding stacks_of
returns-in_default-clause-ok c =
    appended (reverse c.args.self.now.log.items) c.args.name.now c.args.text c.args.self.now.values c.append.new.self c.append.ensures.ordered
    (subst (λ (o : Option Text). MatchOption o (Appends c.args.name.now c.args.text c.args.self.now.values c.append.new.self) (Returns c.args.name.now c.args.text c.args.self.now.values c.append.new.self)) c.in_default.is c.in_ok-text.ensures.ok)

pub returns-clause-ok : goal.returns-clause-ok
unfolding stacks_of
returns-clause-ok c =
    let locals = reverse c.args.self.now.log.items in
    let q = c.args.name.now in
    let es = c.args.self.now.values in
    let put = λ (vs : List (List ℕ × List (List (List ℕ)))) (ts : List (List ℕ)). put_values vs q (ts ∷ covered (stack_in vs q)) in
    let back : Returns q c.args.text es c.append.new.self c.in-Some.text =
    subst (λ (o : Option Text). MatchOption o (Appends q c.args.text es c.append.new.self) (Returns q c.args.text es c.append.new.self)) c.in-Some.is c.in_ok-text.ensures.ok in
    let texts : map text_bytes c.in_ok-texts.texts ≡ visible (stack_in (map (variable_of locals) es) q) ++ text_bytes c.args.text ∷ [] =
    ap (map text_bytes) (c.in_ok-texts.ensures ∙ ap (λ t. t ∷ []) back.0) ∙ ap (λ ts. ts ++ text_bytes c.args.text ∷ []) (sym (shows_none locals q es back.1)) in
    on_ok_weaker c.set.result
    (λ h. h ∙ ap (λ fs. put (map (variable_of locals) fs) (map text_bytes c.in_ok-texts.texts)) back.2
    ∙ ap (put (map (variable_of locals) es)) texts)
    c.set.ensures.ok
