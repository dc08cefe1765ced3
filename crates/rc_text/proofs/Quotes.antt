-- Doubling the quotes of a text, character by character.
use Rattle.std.proofs.Common.{◌≡◌, ℕ, false, ◌==◌, List, [], ◌∷◌, ◌++◌, ap, ◌∙◌, arith, append-nil}
use Rattle.std.proofs.lemmas.Bool.Decides.{nat_tests}
use Rattle.std.proofs.lemmas.Str.{encodes-append}
use Rattle.std.proofs.lemmas.Grind.{common_steps}
use lib.Utf8.{encode, encodes}
use Rattle.rc_model.specs.Syntax.Tokens.{doubled_quotes}
use Rattle.rc_model.proofs.Quotes.{doubled-append, doubled_other}

joined_char : (cs : List ℕ) (c : ℕ) → doubled_quotes (encodes (cs ++ c ∷ [])) ≡ doubled_quotes (encodes cs) ++ doubled_quotes (encode c)
joined_char cs c = ap doubled_quotes (encodes-append cs (c ∷ []))
    ∙ doubled-append (encodes cs) (encodes (c ∷ [])) ∙ ap (λ l. doubled_quotes (encodes cs) ++ doubled_quotes l) (append-nil (encode c))

-- one more character: a quote is written twice, any other once
pub doubled_quote : (cs : List ℕ) (c : ℕ) → c ≡ 39 → doubled_quotes (encodes (cs ++ c ∷ [])) ≡ doubled_quotes (encodes cs) ++ (39 ∷ 39 ∷ [])
unfolding encode
doubled_quote cs c e = joined_char cs c ∙ ap (λ d. doubled_quotes (encodes cs) ++ doubled_quotes (encode d)) e

pub doubled_plain : (cs : List ℕ) (c : ℕ) → (c ≡ 39 → ⊥) → doubled_quotes (encodes (cs ++ c ∷ [])) ≡ doubled_quotes (encodes cs) ++ encode c
doubled_plain cs c ne =
    let other : (c == 39) ≡ false = grind (arith, nat_tests) in
    joined_char cs c ∙ ap (λ l. doubled_quotes (encodes cs) ++ l) (doubled_other c other)

pub ruleset quoting = (doubled_quote, doubled_plain, common_steps)
