-- Quoted words.
use Rattle.std.proofs.Common.{◌≡◌, refl, ap, ◌∙◌, subst, ℕ, Bool, true, false, not, ◌==◌, List, [], ◌∷◌, ◌++◌, IsUtf8}
use Rattle.std.proofs.lemmas.Bool.{and_parts}
use Rattle.std.proofs.lemmas.Str.{encodes-chars, scalars-chars}
use Rattle.std.specs.Str.{chars}
use lib.Utf8.{encodes, scalar, scalars}
use Rattle.rc_model.specs.Syntax.Text.{begins_with, without_zero}
use Rattle.rc_model.specs.Syntax.Tokens.{Lexeme, doubled_quotes, quoted_text, unquoted_text, InQuotes}
use Rattle.rc_model.specs.Syntax.Tokens as k
use Rattle.law_syntax.proofs.Quotes.{quoted_text_chars, unquoted}
use Rattle.law_print.proofs.Gives.{Gives, lexeme}
use Rattle.law_print.proofs.Pieces.{Piece, IsApart, apart, IsCalm, calm_quoted, Ends, at_end, at_space, at_semicolon, at_caret}
use Rattle.law_print.proofs.Pieces.{at_equals, at_paren, at_brace, scalars-append, clean-append}
use Rattle.rc_model.specs.declared.syntax.Previous.{Previous}
use Rattle.rc_model.specs.declared.syntax.Previous.TheVariants as previous

in_quotes : (cs : List ℕ) → InQuotes (doubled_quotes cs)
in_quotes [] = k.nothing
in_quotes (c ∷ cs) = go (c == 39) refl (in_quotes cs)
  where
    go : (q : Bool) → (c == 39) ≡ q → InQuotes (doubled_quotes cs) → InQuotes (doubled_quotes (c ∷ cs))
    go true e ih = rw e (k.doubled (doubled_quotes cs) ih)
    go false e ih = rw e (k.plain c (doubled_quotes cs) e ih)

scalars_doubled : (cs : List ℕ) → scalars cs ≡ true → scalars (doubled_quotes cs) ≡ true
scalars_doubled [] s = refl
scalars_doubled (c ∷ cs) s = let p = and_parts (scalar c) (scalars cs) s in go (c == 39) refl p.0 (scalars_doubled cs p.1)
  where
    go : (q : Bool) → (c == 39) ≡ q → scalar c ≡ true → scalars (doubled_quotes cs) ≡ true → scalars (doubled_quotes (c ∷ cs)) ≡ true
    go true e here ih = rw e ih
    go false e here ih = rw (e, here) ih

clean_doubled : (cs : List ℕ) → without_zero cs ≡ true → without_zero (doubled_quotes cs) ≡ true
clean_doubled [] s = refl
clean_doubled (c ∷ cs) s = let p = and_parts (not (c == 0)) (without_zero cs) s in go (c == 39) refl p.0 (clean_doubled cs p.1)
  where
    go : (q : Bool) → (c == 39) ≡ q → not (c == 0) ≡ true → without_zero (doubled_quotes cs) ≡ true → without_zero (doubled_quotes (c ∷ cs)) ≡ true
    go true e here ih = rw e ih
    go false e here ih = rw (e, here) ih

quote_ends : {rest : List ℕ} → Ends rest → begins_with (39 ∷ []) rest ≡ false
quote_ends at_end = refl
quote_ends at_space = refl
quote_ends at_semicolon = refl
quote_ends at_caret = refl
quote_ends at_equals = refl
quote_ends at_paren = refl
quote_ends at_brace = refl

-- the characters of a text in quotes
abbrev pub quoted_chars : List ℕ → List ℕ
quoted_chars text = 39 ∷ doubled_quotes (chars text) ++ 39 ∷ []

pub quoted_spelled : (text : List ℕ) → IsUtf8 text → encodes (quoted_chars text) ≡ quoted_text text
quoted_spelled text u = quoted_text_chars (chars text) ∙ ap quoted_text (encodes-chars text u)

pub quoted_scalar : (text : List ℕ) → IsUtf8 text → scalars (quoted_chars text) ≡ true
quoted_scalar text u = scalars-append (doubled_quotes (chars text)) (39 ∷ []) (scalars_doubled (chars text) (scalars-chars text u)) refl

pub quoted_clean : (text : List ℕ) → without_zero (chars text) ≡ true → without_zero (quoted_chars text) ≡ true
quoted_clean text z = clean-append (doubled_quotes (chars text)) (39 ∷ []) (clean_doubled (chars text) z) refl

-- they say the text, wherever they stand
pub quoted_spells : (prev : Previous) (text rest : List ℕ) → IsUtf8 text → begins_with (39 ∷ []) rest
    ≡ false → k.IsLexeme prev (quoted_chars text) rest (k.Quoted text)
quoted_spells prev text rest u e =
    subst (λ w. k.IsLexeme prev (quoted_chars text) rest (k.Quoted w)) (ap unquoted_text (quoted_spelled text u) ∙ unquoted text)
    (k.quoted prev (doubled_quotes (chars text)) rest (in_quotes (chars text)) e)

pub quoted_piece : (text : List ℕ) → IsUtf8 text → without_zero (chars text) ≡ true → Piece IsApart IsCalm Ends (quoted_text text) (k.Quoted text ∷ [])
quoted_piece text u z = record {
  chars = quoted_chars text;
  spelled = quoted_spelled text u;
  scalar = quoted_scalar text u;
  clean = quoted_clean text z;
  cuts = λ {prev} b. gives b;
}
  where
    gives : {prev : Previous} → IsApart prev → (rest : List ℕ) (more : List Lexeme) → Ends rest → ((next : Previous) → IsCalm next → Gives next rest more) →
        Gives prev (quoted_chars text ++ rest) (k.Quoted text ∷ more)
    gives apart rest more e g =
        lexeme {cs = quoted_chars text} {rest = rest} refl refl (quoted_spells previous.Apart text rest u (quote_ends e)) (g previous.Quoted calm_quoted)
