use Rattle.std.proofs.Common.{rules, arith, ◌≡◌, ◌+◌, sym, subst, ap, ◌∙◌, [], ◌∷◌, ◌++◌, drop, map, codes}
use Rattle.std.proofs.lemmas.Grind.{common_steps}
use Rattle.std.proofs.lemmas.List.{drop_all}
use Rattle.rc_text.specs.Texts.{text_bytes}
use Rattle.rc_model.specs.Handed.Image.{entry, value_text}
use Rattle.rc_model.specs.Handed.Proper.{Ordered}
use Rattle.rc_model.specs.Run.State.{status_name}
use Rattle.rc_scope.specs.Bodies.{definitions_of}
use Rattle.rc_scope.specs.States.{state_of}
use Rattle.rc_scope.proofs.ProperStates.{is_proper}
use Rattle.rc_image.specs.Additions.{additions, function_text, PushesBelow}
use Rattle.rc_image.proofs.Handing.{all_to_come, function_left, has_name, name_of, turn}
use Rattle.rc_image.proofs.Insertions.{comes_before}
use Rattle.rc_image.proofs.launch_environment.entries.Goals as goal

pub loop-definition-init : goal.loop-definition-init
loop-definition-init c =
    let s = state_of c.args.state.now in
    let ds = c.deref-definition-items.result.now in
    let are : definitions_of ds ≡ s.functions = ap definitions_of c.deref-definition-items.ensures.value ∙ c.in_ok-variables.ensures.functions in
    let ordered = (is_proper c.args.state.now).functions_ordered in
    let none : map text_bytes c.in_ok-all.all.items ≡ [] = search rules in (
      subst Ordered (sym are) ordered,
      rw none (all_to_come ds c.in_ok-variables.field-0.variables.items s are ordered c.in_ok-variables.ensures.variables),
    )

pub function_name-name-requires : goal.function_name-name-requires
function_name-name-requires c =
    let d = c.definition-item.result in
    let x : text_bytes c.in_ok-entry.entry ≡ entry (function_text d) = search rules in
    has_name (text_bytes c.in_ok-entry.entry) d.name.now (function_text d).1 x

pub loop-definition-preserved : goal.loop-definition-preserved
loop-definition-preserved c =
    let status = (state_of c.args.state.now).status in
    let ds = c.deref-definition-items.result.now in
    let vs = c.in_ok-variables.field-0.variables.items in
    let i = c.loop-definition.definition-index in
    let d = c.definition-item.result in
    let is = function_left ds i d c.loop-definition-test.true c.definition-item.is in
    let ordered = subst (λ l. Ordered (definitions_of l)) is c.loop-definition.invariant.0 in
    let x : text_bytes c.in_ok-entry.entry ≡ entry (function_text d) = search rules in
    let more : map text_bytes c.push.new.self.items ≡ map text_bytes c.push_below.new.out.items ++ text_bytes c.in_ok-entry.entry ∷ [] = grind (arith, common_steps) in
    let same : c.deref.result.now ≡ vs = search rules in
    let bound : c.function_name-name.result.now ≡ codes "fn#" ++ d.name.now = c.function_name-name.ensures ∙ name_of (text_bytes c.in_ok-entry.entry) d.name.now (function_text d).1 x in
    let pushes : PushesBelow (codes "fn#" ++ d.name.now) (drop c.loop-definition.place vs) (drop c.in_ok-place.place vs) (map text_bytes c.loop-definition.all.items) (map text_bytes c.push_below.new.out.items)
    = rw (same, bound) at c.in_ok-place.ensures in (
      ordered.1,
      rw more (turn _ _ _ _ (function_text d) _ _ _ _ (ap (λ l. additions l status) is) pushes x (comes_before d.name.now (drop (i + 1) ds) status ordered.0) c.loop-definition.invariant.1),
    )

pub returns : goal.returns
returns c =
    let status = (state_of c.args.state.now).status in
    let ds = c.deref-definition-items.result.now in
    let vs = c.in_ok-variables.field-0.variables.items in
    let none = drop_all c.loop-definition.definition-index ds c.loop-definition-test.false in
    let x : text_bytes c.in_ok-status_entry.field-0 ≡ entry (status_name, value_text (status ∷ [])) = search rules in
    let more : map text_bytes c.push-2.new.self.items ≡ map text_bytes c.push_below-2.new.out.items ++ text_bytes c.in_ok-status_entry.field-0 ∷ [] = grind (arith, common_steps) in
    let same : c.deref-2.result.now ≡ vs = search rules in
    let rest : c.deref-3.result.now ≡ vs = search rules in
    let pushes : PushesBelow status_name (drop c.loop-definition.place vs) (drop c.in_ok-place-2.place vs) (map text_bytes c.loop-definition.all.items) (map text_bytes c.push_below-2.new.out.items)
    = rw same at c.in_ok-place-2.ensures in
    (rw rest at c.in_ok-push_rest.ensures) ∙ rw more (turn _ _ _ _ (status_name, value_text (status ∷ [])) [] _ _ _ (ap (λ l. additions l status) none) pushes x tt c.loop-definition.invariant.1)
