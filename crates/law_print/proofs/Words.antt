-- Unquoted words and names.
use Rattle.std.proofs.Common.{◌≡◌, ◌≢◌, refl, ap, sym, ◌∙◌, subst, ℕ, true, false, List, [], ◌∷◌, ◌++◌, IsUtf8, not, codes}
use Rattle.std.proofs.lemmas.Str.{encodes-chars, scalars-chars}
use Rattle.std.specs.Str.{chars}
use lib.Utf8.{encode, encodes}
use Rattle.rc_model.specs.Syntax.Text.{without_zero}
use Rattle.rc_model.specs.Syntax.Tokens.{Lexeme, IsLongestRun, word_goes_on, is_in_word, at_newline}
use Rattle.rc_model.specs.Syntax.Tokens.{class_of}
use Rattle.rc_model.specs.Syntax.Tokens as k
use Rattle.law_print.proofs.Gives.{Gives, lexeme}
use Rattle.law_print.proofs.Pieces.{Piece, IsApart, apart, IsCalm, calm_word, Ends, at_end, at_space, at_semicolon, at_caret, at_equals, at_paren, at_brace}
use Rattle.rc_model.specs.declared.syntax.Previous.{Previous}
use Rattle.rc_model.specs.declared.syntax.Class.{Class}
use Rattle.rc_model.specs.declared.syntax.Previous.TheVariants as previous
use Rattle.rc_model.specs.declared.syntax.Class.TheVariants as class

-- a word ends before each of these
word_ends : {rest : List ℕ} → Ends rest → word_goes_on rest ≡ false
word_ends at_end = refl
word_ends at_space = refl
word_ends at_semicolon = refl
word_ends at_caret = refl
word_ends at_equals = refl
word_ends at_paren = refl
word_ends at_brace = refl

no_newline : {rest : List ℕ} → Ends rest → not (at_newline rest) ≡ true
no_newline at_end = refl
no_newline at_space = refl
no_newline at_semicolon = refl
no_newline at_caret = refl
no_newline at_equals = refl
no_newline at_paren = refl
no_newline at_brace = refl

in_word_on : (c : Class) (run rest : List ℕ) → Ends rest → is_in_word c (run ++ []) ≡ true → is_in_word c (run ++ rest) ≡ true
in_word_on class.Ordinary run rest e h = refl
in_word_on class.Backslash [] rest e h = no_newline e
in_word_on class.Backslash (d ∷ run) rest e h = h
in_word_on class.Operates run rest e h = h
in_word_on class.Blank run rest e h = h
in_word_on class.LineEnd run rest e h = h
in_word_on class.Hash run rest e h = h
in_word_on class.Quote run rest e h = h

run_on : (cs rest : List ℕ) → Ends rest → IsLongestRun word_goes_on cs [] → IsLongestRun word_goes_on cs rest
run_on [] rest e r = k.stop rest (word_ends e)
run_on (c ∷ cs) rest e (k.next _ _ _ h r) = k.next c cs rest (in_word_on (class_of c) cs rest e h) (run_on cs rest e r)

-- an unquoted word
word_gives : (cs : List ℕ) → cs ≢ [] → IsLongestRun word_goes_on cs [] → (rest : List ℕ) (more : List Lexeme) → Ends rest → Gives previous.Word rest more →
    Gives previous.Apart (cs ++ rest) (k.Word (encodes cs) ∷ more)
word_gives [] ne r rest more e g = absurd (ne refl)
word_gives (c ∷ cs) ne r rest more e g = lexeme {cs = c ∷ cs} {rest = rest} refl refl (k.word previous.Apart c cs rest refl (run_on (c ∷ cs) rest e r)) g

pub word_piece : (text : List ℕ) → IsUtf8 text → without_zero (chars text)
    ≡ true → text ≢ [] → IsLongestRun word_goes_on (chars text) [] → Piece IsApart IsCalm Ends text (k.Word text ∷ [])
word_piece text u z ne r = record {
  chars = chars text;
  spelled = encodes-chars text u;
  scalar = scalars-chars text u;
  clean = z;
  cuts = λ {prev} b. gives b;
}
  where
    some : chars text ≢ []
    some e = ne (sym (encodes-chars text u) ∙ ap encodes e)

    gives : {prev : Previous} → IsApart prev → (rest : List ℕ) (more : List Lexeme) → Ends rest → ((next : Previous) → IsCalm next → Gives next rest more) →
        Gives prev (chars text ++ rest) (k.Word text ∷ more)
    gives apart rest more e g =
        subst (λ w. Gives previous.Apart (chars text ++ rest) (k.Word w ∷ more)) (encodes-chars text u) (word_gives (chars text) some r rest more e
        (g previous.Word calm_word))

-- the word that begins a case line
pub case_word : Piece IsApart IsCalm Ends (codes "case") (k.Word (codes "case") ∷ [])
unfolding encode
case_word = record { chars = codes "case"; spelled = refl; scalar = refl; clean = refl; cuts = λ {prev} b. gives b }
  where
    gives : {prev : Previous} → IsApart prev → (rest : List ℕ) (more : List Lexeme) → Ends rest → ((next : Previous) → IsCalm next → Gives next rest more) →
        Gives prev (99 ∷ 97 ∷ 115 ∷ 101 ∷ rest) (k.Word (codes "case") ∷ more)
    gives apart rest more e g =
        word_gives (codes "case") (λ n. cc)
        (k.next 99 (97 ∷ 115 ∷ 101 ∷ []) [] refl (k.next 97 (115 ∷ 101 ∷ []) [] refl (k.next 115 (101 ∷ []) [] refl (k.next 101 [] [] refl (k.stop [] refl)))))
        rest more e (g previous.Word calm_word)
