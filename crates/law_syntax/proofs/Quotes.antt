-- Quotes are doubled among characters as among bytes, and what they say is what was put into them.
use Rattle.std.proofs.Common.{◌≡◌, refl, ap, sym, ◌∙◌, subst, ℕ, Bool, true, false, ◌==◌, List, [], ◌∷◌, ◌++◌, arith}
use Rattle.std.proofs.lemmas.Bool.Decides.{nat_tests}
use Rattle.std.proofs.lemmas.Str.{encodes-append}
use lib.Utf8.{encode, encodes}
use Rattle.rc_model.specs.Syntax.Tokens.{doubled_quotes, quoted_text, without_quotes}
use Rattle.rc_model.proofs.Quotes.{doubled-append, doubled_other}

-- quotes are doubled among characters as among bytes
pub doubled_chars : (cs : List ℕ) → encodes (doubled_quotes cs) ≡ doubled_quotes (encodes cs)
unfolding encode
doubled_chars [] = refl
doubled_chars (c ∷ cs) = go (c == 39) refl (doubled_chars cs)
  where
    go : (q : Bool) → (c == 39)
        ≡ q → encodes (doubled_quotes cs) ≡ doubled_quotes (encodes cs) → encodes (doubled_quotes (c ∷ cs)) ≡ doubled_quotes (encodes (c ∷ cs))
    go true e ih =
        let same : c ≡ 39 = grind (arith, nat_tests) in
        let twice : doubled_quotes (encode c ++ encodes cs) ≡ 39 ∷ 39 ∷ doubled_quotes (encodes cs) =
        subst (λ d. doubled_quotes (encode d ++ encodes cs) ≡ 39 ∷ 39 ∷ doubled_quotes (encodes cs)) (sym same) refl in
        rw e (ap (λ l. 39 ∷ 39 ∷ l) ih ∙ sym twice)
    go false e ih =
        rw e (ap (λ l. encode c ++ l) ih ∙ ap (λ l. l ++ doubled_quotes (encodes cs)) (sym (doubled_other c e)) ∙ sym (doubled-append (encode c) (encodes cs)))

-- what quotes say is what was put into them
pub unquoted : (text : List ℕ) → without_quotes false (doubled_quotes text ++ 39 ∷ []) ≡ text
unquoted [] = refl
unquoted (b ∷ bs) = go (b == 39) refl (unquoted bs)
  where
    go : (q : Bool) → (b == 39)
        ≡ q → without_quotes false (doubled_quotes bs ++ 39 ∷ []) ≡ bs → without_quotes false (doubled_quotes (b ∷ bs) ++ 39 ∷ []) ≡ b ∷ bs
    go true e ih =
        let same : b ≡ 39 = grind (arith, nat_tests) in
        rw e (ap (λ l. 39 ∷ l) ih ∙ ap (λ d. d ∷ bs) (sym same))
    go false e ih = rw (e, e) (ap (λ l. b ∷ l) ih)

pub quoted_text_chars : (cs : List ℕ) → encodes (39 ∷ doubled_quotes cs ++ 39 ∷ []) ≡ quoted_text (encodes cs)
unfolding encode
quoted_text_chars cs = ap (λ l. 39 ∷ l) (encodes-append (doubled_quotes cs) (39 ∷ []) ∙ ap (λ l. l ++ 39 ∷ []) (doubled_chars cs))
