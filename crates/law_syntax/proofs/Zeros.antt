-- Byte 0 isn't in the bytes of characters that are none of them 0.
use Rattle.std.proofs.Common.{◌≡◌, ◌≢◌, refl, sym, subst, ℕ, suc, ◌<◌, ◌≤◌, true, not, ◌==◌, List, [], ◌∷◌, ◌++◌, length, get_or}
use Rattle.std.proofs.Common.{inl, inr, arith, append-nil}
use Rattle.std.specs.List.{list_all}
use Rattle.std.specs.Str.{chars}
use Rattle.std.proofs.lemmas.Bool.{and_parts, and_from, cases_lt}
use Rattle.std.proofs.lemmas.Bool.Decides.{nat_tests}
use Rattle.std.proofs.lemmas.Str.{encode_ascii, encodes-chars, inside_one}
use lib.Utf8.{encode, encodes}
use Rattle.rc_model.specs.Syntax.Text.{without_zero}
use Rattle.rc_model.specs.Syntax.Tokens.{is_name_char}
use Rattle.rc_model.specs.Syntax.WellFormed.{has_text}
use Rattle.rc_model.specs.Mirrors.Spelling.{IsText}

pub clean_append : (xs ys : List ℕ) → without_zero xs ≡ true → without_zero ys ≡ true → without_zero (xs ++ ys) ≡ true
clean_append [] ys e f = f
clean_append (x ∷ xs) ys e f =
    let p = and_parts (not (x == 0)) (without_zero xs) e in
    and_from (not (x == 0)) (without_zero (xs ++ ys)) p.0 (clean_append xs ys p.1 f)

-- bytes from 128 on are none of them 0
clean_high : (xs : List ℕ) → ((k : ℕ) → k < length xs → 128 ≤ get_or xs k 0) → without_zero xs ≡ true
clean_high [] h = refl
clean_high (x ∷ xs) h =
    let high : 128 ≤ x = h 0 (omega arith) in
    let here : not (x == 0) ≡ true = grind (arith, nat_tests) in
    and_from (not (x == 0)) (without_zero xs) here (clean_high xs (λ k below. h (suc k) (omega arith)))

pub clean_char : (c : ℕ) → not (c == 0) ≡ true → without_zero (encode c) ≡ true
clean_char c e = elim (cases_lt c 128) [
  | inl small ↦ subst (λ bs. without_zero bs ≡ true) (sym (encode_ascii c small)) (and_from (not (c == 0)) true e refl)
  | inr big ↦
      clean_high (encode c) (λ k below. elim (cases_lt (get_or (encode c) k 0) 128) [
        | inl low ↦ absurd (omega (arith, inside_one c [] (encode c) k (sym (append-nil _)) below low))
        | inr h ↦ h
      ])
]

clean_chars : (cs : List ℕ) → without_zero cs ≡ true → without_zero (encodes cs) ≡ true
clean_chars [] z = refl
clean_chars (c ∷ cs) z =
    let p = and_parts (not (c == 0)) (without_zero cs) z in
    clean_append (encode c) (encodes cs) (clean_char c p.0) (clean_chars cs p.1)

pub clean_text : (text : List ℕ) → IsText text → without_zero text ≡ true
clean_text text x = subst (λ bs. without_zero bs ≡ true) (encodes-chars text x.0) (clean_chars (chars text) x.1)

pub name_char_clean : (c : ℕ) → is_name_char c ≡ true → not (c == 0) ≡ true
name_char_clean c e = grind (arith, nat_tests)

pub clean_name : (text : List ℕ) → list_all is_name_char text ≡ true → without_zero text ≡ true
clean_name [] e = refl
clean_name (c ∷ cs) e =
    let p = and_parts (is_name_char c) (list_all is_name_char cs) e in
    and_from (not (c == 0)) (without_zero cs) (name_char_clean c p.0) (clean_name cs p.1)

pub has_some_text : (text : List ℕ) → text ≢ [] → has_text text ≡ true
has_some_text [] e = absurd (e refl)
has_some_text (b ∷ bs) e = refl
