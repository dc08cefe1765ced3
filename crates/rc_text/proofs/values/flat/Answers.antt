use Rattle.std.proofs.Common.{rules, ◌≡◌, ◌∷◌, ◌++◌, map, string_bytes, sym, ap, ◌∙◌}
use Rattle.std.proofs.lemmas.List.{take_all}
use Rattle.std.specs.List.{flat_map}
use Rattle.rc_model.specs.Syntax.Text.{spaced}
use Rattle.rc_text.specs.Texts.{text_bytes}
use Rattle.rc_text.proofs.Spaces.{spaced_texts}
use Rattle.rc_text.proofs.values.flat.Goals as goal

pub returns : goal.returns
returns c =
    let begun : string_bytes c.push_str.new.self ≡ text_bytes c.in-Some.first.now = search rules in
    c.loop-member.invariant
    ∙ ap (λ ts. string_bytes c.push_str.new.self ++ flat_map (λ t. 32 ∷ text_bytes t) ts) (take_all c.loop-member.member-index c.in-Some.others.now c.loop-member-test.false)
    ∙ ap (λ t. t ++ flat_map (λ u. 32 ∷ text_bytes u) c.in-Some.others.now) begun
    ∙ spaced_texts c.in-Some.first.now c.in-Some.others.now
    ∙ ap (λ ts. spaced (map text_bytes ts)) (sym c.in-Some.ensures.cases.0)
