-- Quoted words in which no quote is doubled.
use Rattle.std.proofs.Common.{◌≡◌, refl, ap, sym, ◌∙◌, ℕ, Bool, true, false, ◌==◌, ◌||◌, if◌then◌else◌, List, [], ◌∷◌, ◌++◌}
use Rattle.std.specs.List.{list_any}
use Rattle.rc_model.specs.Syntax.Tokens.{without_quotes, unquoted_text}

-- a byte that is no quote stays
kept : (c r : Bool) (b : ℕ) (x y z : List ℕ) → (c || r) ≡ false → (r ≡ false → y ≡ z) → (if c then x else b ∷ y) ≡ b ∷ z
kept true r b x y z h k = cc
kept false r b x y z h k = ap (λ (t : List ℕ). b ∷ t) (k h)

-- without a quote in it the text stays as it is, and the quote at its end is dropped
before_quote : (text : List ℕ) → list_any (λ b. b == 39) text ≡ false → without_quotes false (text ++ 39 ∷ []) ≡ text
before_quote [] h = refl
before_quote (b ∷ bs) h = kept (b == 39) (list_any (λ c. c == 39) bs) b (without_quotes true (bs ++ 39 ∷ [])) (without_quotes false (bs ++ 39 ∷ [])) bs h
    (before_quote bs)

-- between quotes, of which none is doubled, stands the text of the word
pub text_within : (word rest text : List ℕ) (q last : ℕ) → word ≡ q ∷ rest → rest ≡ text ++ last ∷ [] → last ≡ 39 →
    list_any (λ b. b == 39) text ≡ false → text ≡ unquoted_text word
text_within word rest text q last e r l h =
    sym (ap unquoted_text (e ∙ ap (λ (t : List ℕ). q ∷ t) (r ∙ ap (λ (b : ℕ). text ++ b ∷ []) l)) ∙ before_quote text h)
