-- The lines of tokens.
use Rattle.std.proofs.Common.{◌≡◌, ℕ, zero, suc, ◌<◌, ◌-◌, true, ◌||◌, List, [], ◌∷◌, length, inl, inr, refl, sym, ap, ◌∙◌, arith}
use Rattle.std.proofs.Math.Bool.{or-true}
use Rattle.std.proofs.lemmas.Bool.Decides.{nat_tests}
use Rattle.std.proofs.lemmas.List.{length-map}
use Rattle.std.specs.List.{list_any}
use Rattle.std.specs.Prelude.{◌==◌, drop, slice_index_or}
use Rattle.rc_model.specs.Syntax.Accepted.{IsLineOf}
use Rattle.rc_model.specs.Syntax.Tokens as model
use Rattle.rc_lexer.specs.declared.Token.{Token}
use Rattle.rc_lexer.specs.Views.{token_of, tokens_of}
use Rattle.rc_model.specs.Mirrors.FirstFault.{first_line, line_left}

-- where a token stands it is that of this token
line_of_token : (script : List ℕ) (tokens : List Token) (place : ℕ) (x : Token) → place < length tokens → ((d : Token) → x ≡ slice_index_or tokens place d) →
    x.line ≡ first_line script (drop place (tokens_of script tokens))
line_of_token script [] place x h e = absurd (omega arith)
line_of_token script (t ∷ ts) zero x h e = ap (λ y. y.line) (e x)
line_of_token script (t ∷ ts) (suc place) x h e = line_of_token script ts place x (omega arith) e

-- a place that is counted from the end
counted : (script : List ℕ) (tokens : List Token) (left place : ℕ) → place ≡ length tokens - left →
    first_line script (drop place (tokens_of script tokens)) ≡ line_left script (tokens_of script tokens) left
counted script tokens left place p =
    ap (λ n. first_line script (drop n (tokens_of script tokens))) (p ∙ ap (λ n. n - left) (sym (length-map tokens (λ t. token_of script t))))

pub line_of_token_left : (script : List ℕ) (tokens : List Token) (left place : ℕ) (x : Token) → place ≡ length tokens - left → place < length tokens →
    ((d : Token) → x ≡ slice_index_or tokens place d) → x.line ≡ line_left script (tokens_of script tokens) left
line_of_token_left script tokens left place x p h e = line_of_token script tokens place x h e ∙ counted script tokens left place p
