-- Doubling the quotes of a text, which goes byte by byte.
use Rattle.std.proofs.Common.{◌≡◌, refl, ap, sym, ℕ, suc, ◌<◌, ◌≤◌, true, false, ◌==◌, if◌then◌else◌, List, [], ◌∷◌, ◌++◌, length, get_or}
use Rattle.std.proofs.Common.{inl, inr, arith, append-nil}
use Rattle.std.proofs.lemmas.Bool.{cases_lt}
use Rattle.std.proofs.lemmas.Bool.Decides.{nat_tests}
use Rattle.std.proofs.lemmas.Str.{encode_ascii, inside_one}
use lib.Utf8.{encode}
use Rattle.rc_model.specs.Syntax.Tokens.{doubled_quotes}

-- the quotes of two texts, one after the other
pub doubled-append : (xs ys : List ℕ) → doubled_quotes (xs ++ ys) ≡ doubled_quotes xs ++ doubled_quotes ys
doubled-append [] ys = refl
doubled-append (b ∷ bs) ys =
    elim (b == 39) as (λ q. (if q then 39 ∷ 39 ∷ doubled_quotes (bs ++ ys) else b ∷ doubled_quotes (bs ++ ys))
    ≡ (if q then 39 ∷ 39 ∷ doubled_quotes bs else b ∷ doubled_quotes bs) ++ doubled_quotes ys)
    [ true ↦ ap (λ l. 39 ∷ 39 ∷ l) (doubled-append bs ys) | false ↦ ap (λ l. b ∷ l) (doubled-append bs ys) ]

-- bytes from 128 on are none of them a quote
doubled_high : (xs : List ℕ) → ((k : ℕ) → k < length xs → 128 ≤ get_or xs k 0) → doubled_quotes xs ≡ xs
doubled_high [] h = refl
doubled_high (x ∷ xs) h =
    let high : 128 ≤ x = h 0 (omega arith) in
    let other : (x == 39) ≡ false = grind (arith, nat_tests) in
    rw other (ap (λ l. x ∷ l) (doubled_high xs (λ k below. h (suc k) (omega arith))))

-- a character that is no quote stands there once
pub doubled_other : (c : ℕ) → (c == 39) ≡ false → doubled_quotes (encode c) ≡ encode c
doubled_other c other = elim (cases_lt c 128) [
  | inl small ↦ rw (encode_ascii c small) (rw other refl)
  | inr big ↦
      doubled_high (encode c) (λ k below. elim (cases_lt (get_or (encode c) k 0) 128) [
        | inl low ↦ absurd (omega (arith, inside_one c [] (encode c) k (sym (append-nil _)) below low))
        | inr h ↦ h
      ])
]
