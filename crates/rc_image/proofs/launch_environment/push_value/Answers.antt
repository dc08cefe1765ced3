use Rattle.std.proofs.Common.{arith, ◌≡◌, ◌∷◌, ◌++◌, map, string_bytes, sym, ap, ◌∙◌}
use Rattle.std.proofs.lemmas.List.{take_all, append_assoc}
use Rattle.std.proofs.lemmas.Grind.{common_steps}
use Rattle.std.specs.List.{flat_map}
use Rattle.rc_text.specs.Texts.{text_bytes}
use Rattle.rc_model.specs.Handed.Image.{escaped, value_text}
use Rattle.rc_image.proofs.Escaping.{value_texts}
use Rattle.rc_image.proofs.launch_environment.push_value.Goals as goal

pub returns : goal.returns
returns c =
    let before = string_bytes c.args.out.now in
    let begun : string_bytes c.push_member.new.out ≡ before ++ escaped (text_bytes c.in-Some.first.now) = grind (arith, common_steps) in
    c.loop-member.invariant
    ∙ ap (λ ts. string_bytes c.push_member.new.out ++ flat_map (λ t. 1 ∷ escaped (text_bytes t)) ts) (take_all c.loop-member.member-index c.in-Some.others.now c.loop-member-test.false)
    ∙ ap (λ t. t ++ flat_map (λ u. 1 ∷ escaped (text_bytes u)) c.in-Some.others.now) begun
    ∙ append_assoc before _ _
    ∙ ap (λ t. before ++ t) (value_texts c.in-Some.first.now c.in-Some.others.now)
    ∙ ap (λ ts. before ++ value_text (map text_bytes ts)) (sym c.in-Some.ensures.cases.0)
