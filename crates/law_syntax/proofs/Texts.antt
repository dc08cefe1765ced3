-- Characters that are a text, and their parts.
use Rattle.std.proofs.Common.{◌≡◌, ◌≢◌, refl, ap, sym, ◌∙◌, subst, ℕ, ◌<◌, true, not, ◌==◌, List, [], ◌∷◌, ◌++◌, arith}
use Rattle.std.specs.List.{list_all}
use Rattle.std.specs.Str.{chars}
use Rattle.std.proofs.lemmas.Bool.{and_parts, and_from}
use Rattle.std.proofs.lemmas.Bool.Decides.{nat_tests}
use Rattle.std.proofs.lemmas.Str.{chars-encodes, encode_ascii}
use lib.Utf8.{scalar, scalars, encodes}
use Rattle.rc_model.specs.Syntax.Text.{without_zero}
use Rattle.rc_model.specs.Syntax.Tokens.{is_name_char}
use Rattle.rc_model.specs.Mirrors.Spelling.{IsText}

-- a text of characters without 0
pub text_of : (cs : List ℕ) → scalars cs ≡ true → without_zero cs ≡ true → IsText (encodes cs)
text_of cs s z = ((cs, (s, refl)), subst (λ x. without_zero x ≡ true) (sym (chars-encodes cs s)) z)

pub some_text : (c : ℕ) (cs : List ℕ) → scalars (c ∷ cs) ≡ true → encodes (c ∷ cs) ≢ []
unfolding chars
some_text c cs s e = let same : c ∷ cs ≡ [] = sym (chars-encodes (c ∷ cs) s) ∙ ap chars e in cc

pub scalars_front : (xs ys : List ℕ) → scalars (xs ++ ys) ≡ true → scalars xs ≡ true
scalars_front [] ys s = refl
scalars_front (x ∷ xs) ys s = let p = and_parts (scalar x) (scalars (xs ++ ys)) s in and_from (scalar x) (scalars xs) p.0 (scalars_front xs ys p.1)

pub scalars_back : (xs ys : List ℕ) → scalars (xs ++ ys) ≡ true → scalars ys ≡ true
scalars_back [] ys s = s
scalars_back (x ∷ xs) ys s = scalars_back xs ys (and_parts (scalar x) (scalars (xs ++ ys)) s).1

pub clean_front : (xs ys : List ℕ) → without_zero (xs ++ ys) ≡ true → without_zero xs ≡ true
clean_front [] ys z = refl
clean_front (x ∷ xs) ys z = let p = and_parts (not (x == 0)) (without_zero (xs ++ ys)) z in and_from (not (x == 0)) (without_zero xs) p.0 (clean_front xs ys p.1)

pub clean_back : (xs ys : List ℕ) → without_zero (xs ++ ys) ≡ true → without_zero ys ≡ true
clean_back [] ys z = z
clean_back (x ∷ xs) ys z = clean_back xs ys (and_parts (not (x == 0)) (without_zero (xs ++ ys)) z).1

-- name characters are ASCII
pub name_char_low : (c : ℕ) → is_name_char c ≡ true → c < 128
name_char_low c e = grind (arith, nat_tests)

pub name_encodes : (text : List ℕ) → list_all is_name_char text ≡ true → encodes text ≡ text
name_encodes [] e = refl
name_encodes (c ∷ cs) e =
    let p = and_parts (is_name_char c) (list_all is_name_char cs) e in
    ap (λ l. l ++ encodes cs) (encode_ascii c (name_char_low c p.0)) ∙ ap (λ l. c ∷ l) (name_encodes cs p.1)
