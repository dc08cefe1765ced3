use Rattle.std.proofs.Common.{rules, ◌≡◌, refl, sym, ap, ◌∙◌, [], ◌∷◌, ◌++◌, map}
use Rattle.std.proofs.lemmas.List.{append-nil, drop_all}
use Rattle.rc_text.specs.Texts.{text_bytes}
use Rattle.rc_model.specs.Handed.Image.{entry, value_text}
use Rattle.rc_image.specs.Additions.{handed}
use Rattle.rc_image.proofs.Handing.{entry_on, left_off, left_on}
use Rattle.rc_image.proofs.launch_environment.push_rest.Goals as goal
use Rattle.rc_image.proofs.launch_environment.push_rest.Goals.{then-is_handed+in_ok-push_entry, else-is_handed}

pub loop-place-init : goal.loop-place-init
loop-place-init c = refl

pub loop-place-preserved : goal.loop-place-preserved
loop-place-preserved c =
    let v = c.index-variables-place.result in
    let w = map text_bytes c.loop-place.out.items in
    elim c.if-is_handed.branch [
      | then-is_handed+in_ok-push_entry u ↦
          let next = left_on c.args.variables.now c.loop-place.place v c.loop-place-test.true c.index-variables-place.is (search rules) in
          let more : map text_bytes c.if-is_handed.out.items ≡ w ++ entry (v.name.now, value_text (map text_bytes v.value.now)) ∷ [] = search rules in
          rw more (entry_on _ _ _ _ _ _ refl next c.loop-place.invariant)
      | else-is_handed u ↦
          let next = left_off c.args.variables.now c.loop-place.place v c.loop-place-test.true c.index-variables-place.is (search rules) in
          let same : map text_bytes c.if-is_handed.out.items ≡ w = search rules in
          rw (same, sym next) c.loop-place.invariant
    ]

pub returns : goal.returns
returns c =
    sym (append-nil (map text_bytes c.loop-place.out.items)) ∙ ap (λ vs. map text_bytes c.loop-place.out.items ++ map entry (handed vs)) (sym (drop_all c.loop-place.place c.args.variables.now c.loop-place-test.false))
    ∙ c.loop-place.invariant
