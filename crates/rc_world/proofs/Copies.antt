-- Copies of texts.
use Rattle.std.proofs.Common.{◌≡◌, ap, ◌∙◌, refl, ℕ, List, [], ◌∷◌, map, string_bytes, String}
use Rattle.std.specs.declared.alloc.Global.{Global}
use Rattle.std.specs.List.{AllZip}
use Rattle.rc_text.specs.Texts.{text_bytes}
use Rattle.rc_text.specs.declared.texts.Text.{Text}

-- lists whose members have the same bytes
same : {X : Type 0} (bytes : X → List ℕ) (xs ys : List X) → AllZip (λ s t. bytes t ≡ bytes s) xs ys → map bytes ys ≡ map bytes xs
same bytes [] [] h = refl
same bytes [] (y ∷ ys) h = absurd h
same bytes (x ∷ xs) [] h = absurd h
same bytes (x ∷ xs) (y ∷ ys) h = ap (λ b. b ∷ map bytes ys) h.0 ∙ ap (λ bs. bytes x ∷ bs) (same bytes xs ys h.1)

pub same_strings : (xs ys : List (String Global)) → AllZip (λ s t. string_bytes t ≡ string_bytes s) xs ys → map string_bytes ys ≡ map string_bytes xs
same_strings = same string_bytes

pub same_texts : (xs ys : List Text) → AllZip (λ s t. text_bytes t ≡ text_bytes s) xs ys → map text_bytes ys ≡ map text_bytes xs
same_texts = same text_bytes
