-- Texts joined by spaces.
use Rattle.std.proofs.Common.{◌≡◌, refl, List, [], ◌∷◌, ◌++◌, map, ap, codes}
use Rattle.std.specs.List.{flat_map}
use Rattle.rc_model.specs.Syntax.Text.{spaced}
use Rattle.rc_text.specs.Texts.{text_bytes}
use Rattle.rc_text.specs.declared.texts.Text.{Text}

each_spaced : (ss : List (Text)) → flat_map (λ t. 32 ∷ text_bytes t) ss ≡ flat_map (λ t. codes " " ++ t) (map text_bytes ss)
each_spaced [] = refl
each_spaced (s ∷ ss) = ap (λ u. 32 ∷ (text_bytes s ++ u)) (each_spaced ss)

-- the first text, and each other after a space
pub spaced_texts : (s : Text) (ss : List (Text)) → text_bytes s ++ flat_map (λ t. 32 ∷ text_bytes t) ss ≡ spaced (map text_bytes (s ∷ ss))
spaced_texts s ss = ap (λ u. text_bytes s ++ u) (each_spaced ss)
