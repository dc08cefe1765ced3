-- Names after a `$`.
use Rattle.std.proofs.Common.{◌≡◌, ◌≢◌, refl, ap, sym, ◌∙◌, subst, ℕ, ◌<◌, true, false, ◌==◌, List, [], ◌∷◌, ◌++◌, IsUtf8, arith, codes}
use Rattle.std.proofs.Common.{append_assoc}
use Rattle.std.proofs.lemmas.Bool.{and_parts}
use Rattle.std.proofs.lemmas.Bool.Decides.{nat_tests}
use Rattle.std.proofs.lemmas.Str.{encodes-append}
use Rattle.std.specs.List.{list_all}
use Rattle.std.specs.Str.{chars}
use lib.Utf8.{encode, encodes, scalars, low_scalar}
use Rattle.rc_model.specs.Syntax.Text.{begins_with, without_zero}
use Rattle.rc_model.specs.Syntax.Tokens.{Lexeme, IsLongestRun, name_goes_on, is_name_char, goes_on, names}
use Rattle.rc_model.specs.Syntax.Tokens as k
use Rattle.law_syntax.proofs.Texts.{name_char_low, name_encodes}
use Rattle.law_print.proofs.Gives.{Gives, lexeme}
use Rattle.law_print.proofs.Pieces.{Piece, IsApart, apart, IsCalm, calm_name, Anything, scalars-append, clean-append, Ends, at_end}
use Rattle.law_print.proofs.Pieces.{at_space, at_semicolon, at_caret, at_equals, at_paren, at_brace}
use Rattle.law_print.proofs.Quotes.{quoted_chars, quoted_spelled, quoted_scalar, quoted_clean, quoted_spells}
use Rattle.law_print.proofs.Steps.{left_paren_alone}
use Rattle.law_syntax.proofs.Zeros.{clean_name}
use Rattle.rc_model.specs.declared.syntax.Previous.{Previous}
use Rattle.rc_model.specs.declared.syntax.Previous.TheVariants as previous

-- after a name stands the end of a word, or a subscript
pub data NameEnds : List ℕ → Type 0 where
  ends : {rest : List ℕ} → Ends rest → NameEnds rest
  subscript : {rest : List ℕ} → NameEnds (40 ∷ rest)

name_stops : {rest : List ℕ} → NameEnds rest → name_goes_on rest ≡ false
name_stops (ends at_end) = refl
name_stops (ends at_space) = refl
name_stops (ends at_semicolon) = refl
name_stops (ends at_caret) = refl
name_stops (ends at_equals) = refl
name_stops (ends at_paren) = refl
name_stops (ends at_brace) = refl
name_stops subscript = refl

quote_stops : {rest : List ℕ} → NameEnds rest → begins_with (39 ∷ []) rest ≡ false
quote_stops (ends at_end) = refl
quote_stops (ends at_space) = refl
quote_stops (ends at_semicolon) = refl
quote_stops (ends at_caret) = refl
quote_stops (ends at_equals) = refl
quote_stops (ends at_paren) = refl
quote_stops (ends at_brace) = refl
quote_stops subscript = refl

-- a name after a `$`, with its lexemes
pub record NamePiece (text : List ℕ) (ls : List Lexeme) : Type 0 where
  pub chars : List ℕ
  pub spelled : encodes chars ≡ text
  pub scalar : scalars chars ≡ true
  pub clean : without_zero chars ≡ true
  pub stands : (rest : List ℕ) → names (chars ++ rest) ≡ true
  pub alone : (rest : List ℕ) → goes_on (36 ∷ []) (chars ++ rest) ≡ false
  pub cuts : (rest : List ℕ) (more : List Lexeme) → NameEnds rest → Gives previous.Name rest more → Gives previous.Dollar (chars ++ rest) (ls ++ more)

-- name characters are neither `#` nor `"`
name_char_sharp : (c : ℕ) → is_name_char c ≡ true → (c == 35) ≡ false
name_char_sharp c e = grind (arith, nat_tests)

name_char_double : (c : ℕ) → is_name_char c ≡ true → (c == 34) ≡ false
name_char_double c e = grind (arith, nat_tests)

name_scalars : (text : List ℕ) → list_all is_name_char text ≡ true → scalars text ≡ true
name_scalars [] e = refl
name_scalars (c ∷ cs) e =
    let p = and_parts (is_name_char c) (list_all is_name_char cs) e in
    let small : c < 128 = name_char_low c p.0 in
    rw (low_scalar c (omega arith)) (name_scalars cs p.1)

name_run : (cs rest : List ℕ) → list_all is_name_char cs ≡ true → name_goes_on rest ≡ false → IsLongestRun name_goes_on cs rest
name_run [] rest e s = k.stop rest s
name_run (c ∷ cs) rest e s = let p = and_parts (is_name_char c) (list_all is_name_char cs) e in k.next c cs rest p.0 (name_run cs rest p.1 s)

-- a name that is not quoted
pub bare_name : (text : List ℕ) → text ≢ [] → list_all is_name_char text ≡ true → NamePiece text (k.Name text ∷ [])
bare_name [] ne e = absurd (ne refl)
bare_name (c ∷ cs) ne e = record {
  chars = c ∷ cs;
  spelled = name_encodes (c ∷ cs) e;
  scalar = name_scalars (c ∷ cs) e;
  clean = clean_name (c ∷ cs) e;
  stands = λ rest. rw first refl;
  alone = λ rest. rw (name_char_sharp c first, name_char_double c first) refl;
  cuts = λ rest more s g.
      subst (λ t. Gives previous.Dollar (c ∷ cs ++ rest) (k.Name t ∷ more)) (name_encodes (c ∷ cs) e)
      (lexeme {cs = c ∷ cs} {rest = rest} refl refl (k.name c cs rest (name_run (c ∷ cs) rest e (name_stops s))) g);
}
  where
    first : is_name_char c ≡ true
    first = (and_parts (is_name_char c) (list_all is_name_char cs) e).0

pub quoted_name : (text : List ℕ) → IsUtf8 text → without_zero (chars text) ≡ true → NamePiece (k.quoted_text text) (k.Quoted text ∷ [])
quoted_name text u z = record {
  chars = quoted_chars text;
  spelled = quoted_spelled text u;
  scalar = quoted_scalar text u;
  clean = quoted_clean text z;
  stands = λ rest. refl;
  alone = λ rest. refl;
  cuts = λ rest more s g. lexeme {cs = quoted_chars text} {rest = rest} refl refl (quoted_spells previous.Dollar text rest u (quote_stops s)) g;
}

-- a `$` where a name stands after it
dollar : (rest : List ℕ) → names rest ≡ true → goes_on (36 ∷ []) rest ≡ false → k.IsLexeme previous.Apart (36 ∷ []) rest k.Dollar
dollar rest n e = subst (λ l. k.IsLexeme previous.Apart (36 ∷ []) rest l) (rw n refl) (k.operated previous.Apart (36 ∷ []) rest k.Dollar refl refl (λ e. cc) e)

second_dollar : (rest : List ℕ) → names rest ≡ true → goes_on (36 ∷ []) rest ≡ false → k.IsLexeme previous.Dollar (36 ∷ []) rest k.Dollar
second_dollar rest n e = subst (λ l. k.IsLexeme previous.Dollar (36 ∷ []) rest l) (rw n refl) (k.operated previous.Dollar (36 ∷ []) rest k.Dollar refl refl (λ e. cc) e)

count_alone : (rest : List ℕ) → goes_on (36 ∷ 35 ∷ []) rest ≡ false
count_alone [] = refl
count_alone (c ∷ cs) = refl

flat_alone : (rest : List ℕ) → goes_on (36 ∷ 34 ∷ []) rest ≡ false
flat_alone [] = refl
flat_alone (c ∷ cs) = refl

dollar_count : (rest : List ℕ) → names rest ≡ true → k.IsLexeme previous.Apart (36 ∷ 35 ∷ []) rest k.DollarCount
dollar_count rest n =
    subst (λ l. k.IsLexeme previous.Apart (36 ∷ 35 ∷ []) rest l) (rw n refl) (k.operated previous.Apart (36 ∷ 35 ∷ []) rest k.DollarCount refl refl (λ e. cc) (count_alone rest))

dollar_flat : (rest : List ℕ) → names rest ≡ true → k.IsLexeme previous.Apart (36 ∷ 34 ∷ []) rest k.DollarFlat
dollar_flat rest n =
    subst (λ l. k.IsLexeme previous.Apart (36 ∷ 34 ∷ []) rest l) (rw n refl) (k.operated previous.Apart (36 ∷ 34 ∷ []) rest k.DollarFlat refl refl (λ e. cc) (flat_alone rest))

pub named_name : {text : List ℕ} {ls : List Lexeme} → NamePiece text ls → NamePiece (codes "$" ++ text) (k.Dollar ∷ ls)
unfolding encode
named_name {text} {ls} n = record {
  chars = 36 ∷ n.chars;
  spelled = ap (λ l. 36 ∷ l) n.spelled;
  scalar = n.scalar;
  clean = n.clean;
  stands = λ rest. n.stands rest;
  alone = λ rest. refl;
  cuts = λ rest more s g.
      lexeme {cs = 36 ∷ []} {rest = n.chars ++ rest} refl refl (second_dollar (n.chars ++ rest) (n.stands rest) (n.alone rest)) (n.cuts rest more s g);
}

-- the value of a variable, its count and its flat text
pub var_piece : {text : List ℕ} {ls : List Lexeme} → NamePiece text ls → Piece IsApart IsCalm Ends (codes "$" ++ text) (k.Dollar ∷ ls)
unfolding encode
var_piece {text} {ls} n = record { chars = 36 ∷ n.chars; spelled = ap (λ l. 36 ∷ l) n.spelled; scalar = n.scalar; clean = n.clean; cuts = λ {prev} b. gives b }
  where
    gives : {prev : Previous} → IsApart prev → (rest : List ℕ) (more : List Lexeme) → Ends rest → ((next : Previous) → IsCalm next → Gives next rest more) →
        Gives prev (36 ∷ n.chars ++ rest) (k.Dollar ∷ ls ++ more)
    gives apart rest more e g =
        lexeme {cs = 36 ∷ []} {rest = n.chars ++ rest} refl refl (dollar (n.chars ++ rest) (n.stands rest) (n.alone rest)) (n.cuts rest more
        (ends e) (g previous.Name calm_name))

pub count_piece : {text : List ℕ} {ls : List Lexeme} → NamePiece text ls → Piece IsApart IsCalm Ends (codes "$#" ++ text) (k.DollarCount ∷ ls)
unfolding encode
count_piece {text} {ls} n =
    record { chars = 36 ∷ 35 ∷ n.chars; spelled = ap (λ l. 36 ∷ 35 ∷ l) n.spelled; scalar = n.scalar; clean = n.clean; cuts = λ {prev} b. gives b }
  where
    gives : {prev : Previous} → IsApart prev → (rest : List ℕ) (more : List Lexeme) → Ends rest → ((next : Previous) → IsCalm next → Gives next rest more) →
        Gives prev (36 ∷ 35 ∷ n.chars ++ rest) (k.DollarCount ∷ ls ++ more)
    gives apart rest more e g =
        lexeme {cs = 36 ∷ 35 ∷ []} {rest = n.chars ++ rest} refl refl (dollar_count (n.chars ++ rest) (n.stands rest)) (n.cuts rest more (ends e)
        (g previous.Name calm_name))

pub flat_piece : {text : List ℕ} {ls : List Lexeme} → NamePiece text ls → Piece IsApart IsCalm Ends (codes "$\"" ++ text) (k.DollarFlat ∷ ls)
unfolding encode
flat_piece {text} {ls} n =
    record { chars = 36 ∷ 34 ∷ n.chars; spelled = ap (λ l. 36 ∷ 34 ∷ l) n.spelled; scalar = n.scalar; clean = n.clean; cuts = λ {prev} b. gives b }
  where
    gives : {prev : Previous} → IsApart prev → (rest : List ℕ) (more : List Lexeme) → Ends rest → ((next : Previous) → IsCalm next → Gives next rest more) →
        Gives prev (36 ∷ 34 ∷ n.chars ++ rest) (k.DollarFlat ∷ ls ++ more)
    gives apart rest more e g =
        lexeme {cs = 36 ∷ 34 ∷ []} {rest = n.chars ++ rest} refl refl (dollar_flat (n.chars ++ rest) (n.stands rest)) (n.cuts rest more (ends e)
        (g previous.Name calm_name))

-- a subscript begins directly after a name
pub subscript_piece : {text : List ℕ} {ls : List Lexeme} → NamePiece text ls →
    Piece IsApart IsApart Anything (codes "$" ++ (text ++ codes "(")) (k.Dollar ∷ (ls ++ k.Subscript ∷ []))
unfolding encode
subscript_piece {text} {ls} n = record {
  chars = 36 ∷ (n.chars ++ 40 ∷ []);
  spelled = ap (λ l. 36 ∷ l) (encodes-append n.chars (40 ∷ []) ∙ ap (λ l. l ++ 40 ∷ []) n.spelled);
  scalar = scalars-append n.chars (40 ∷ []) n.scalar refl;
  clean = clean-append n.chars (40 ∷ []) n.clean refl;
  cuts = λ {prev} b. gives b;
}
  where
    gives : {prev : Previous} → IsApart prev → (rest : List ℕ) (more : List Lexeme) → Anything rest → ((next : Previous) → IsApart next → Gives next rest more) →
        Gives prev (36 ∷ (n.chars ++ 40 ∷ []) ++ rest) (k.Dollar ∷ (ls ++ k.Subscript ∷ []) ++ more)
    gives apart rest more e g =
        let open' : Gives previous.Name (40 ∷ rest) (k.Subscript ∷ more) =
        lexeme {cs =
        40 ∷ []} {rest = rest} refl refl (k.operated previous.Name (40 ∷ []) rest k.LeftParen refl refl (λ e. cc) (left_paren_alone rest)) (g previous.Apart apart) in
        subst (λ cs. Gives previous.Apart (36 ∷ cs) (k.Dollar ∷ (ls ++ k.Subscript ∷ []) ++ more)) (sym (append_assoc n.chars (40 ∷ []) rest))
        (subst (λ l. Gives previous.Apart (36 ∷ (n.chars ++ 40 ∷ rest)) (k.Dollar ∷ l)) (sym (append_assoc ls (k.Subscript ∷ []) more))
        (lexeme {cs = 36 ∷ []} {rest = n.chars ++ 40 ∷ rest} refl refl (dollar (n.chars ++ 40 ∷ rest) (n.stands (40 ∷ rest)) (n.alone (40 ∷ rest)))
        (n.cuts (40 ∷ rest) (k.Subscript ∷ more) subscript open')))
