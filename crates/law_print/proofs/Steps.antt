-- One step through a fixed piece of a printed text: a blank, an operator or a word of ordinary characters, by what was before it.
use Rattle.std.proofs.Common.{◌≡◌, ◌≢◌, refl, sym, subst, ℕ, Bool, true, false, ◌&&◌, List, [], ◌∷◌, ◌++◌, Some}
use Rattle.std.proofs.lemmas.Bool.{and_parts}
use lib.Utf8.{encodes}
use Rattle.rc_model.specs.Syntax.Tokens.{Lexeme, IsLongestRun, word_goes_on, class_of, goes_on, operator, meant, after_token}
use Rattle.rc_model.specs.Syntax.Tokens as k
use Rattle.law_print.proofs.Gives.{Gives, blank, lexeme}
use Rattle.law_print.proofs.Pieces.{IsApart, apart, IsCalm, calm_apart, calm_word, calm_quoted, calm_name}
use Rattle.rc_model.specs.declared.syntax.Previous.{Previous}
use Rattle.rc_model.specs.declared.syntax.Class.{Class}
use Rattle.rc_model.specs.declared.syntax.Previous.TheVariants as previous
use Rattle.rc_model.specs.declared.syntax.Class.TheVariants as class

pub at_start : {prev : Previous} {cs : List ℕ} {ls : List Lexeme} → IsApart prev → Gives previous.Apart cs ls → Gives prev cs ls
at_start apart g = g

pub blank_step : {prev : Previous} {cs : List ℕ} {ls : List Lexeme} → IsCalm prev → Gives previous.Apart cs ls → Gives prev (32 ∷ cs) ls
blank_step calm_apart g = blank refl g
blank_step calm_word g = blank refl g
blank_step calm_quoted g = blank refl g
blank_step calm_name g = blank refl g

-- an operator after nothing that matters
pub operator_step : (cs rest : List ℕ) (l : Lexeme) {ls : List Lexeme} → operator cs ≡ Some l → l ≢ k.BareHere → goes_on cs rest ≡ false → meant previous.Apart rest l ≡ l →
    after_token previous.Apart l ≡ previous.Apart → Gives previous.Apart rest ls → Gives previous.Apart (cs ++ rest) (l ∷ ls)
operator_step cs rest l {ls} found no_mark stops same next g =
    lexeme {cs = cs} {rest = rest} refl refl (subst (λ m. k.IsLexeme previous.Apart cs rest m) same (k.operated previous.Apart cs rest l refl found no_mark stops))
    (subst (λ b. Gives b rest ls) (sym next) g)

-- words of ordinary characters
abbrev is_ordinary : Class → Bool
is_ordinary class.Ordinary = true
is_ordinary _ = false

abbrev are_ordinary : List ℕ → Bool
are_ordinary [] = true
are_ordinary (c ∷ cs) = is_ordinary (class_of c) && are_ordinary cs

abbrev pub is_plain : List ℕ → Bool
is_plain [] = false
is_plain (c ∷ cs) = are_ordinary (c ∷ cs)

ordinary_in_word : (c : Class) (rest : List ℕ) → is_ordinary c ≡ true → k.is_in_word c rest ≡ true
ordinary_in_word class.Ordinary rest e = refl
ordinary_in_word class.Operates rest e = cc
ordinary_in_word class.Blank rest e = cc
ordinary_in_word class.LineEnd rest e = cc
ordinary_in_word class.Hash rest e = cc
ordinary_in_word class.Quote rest e = cc
ordinary_in_word class.Backslash rest e = cc

plain_run : (cs rest : List ℕ) → are_ordinary cs ≡ true → word_goes_on rest ≡ false → IsLongestRun word_goes_on cs rest
plain_run [] rest e s = k.stop rest s
plain_run (c ∷ cs) rest e s =
    let p = and_parts (is_ordinary (class_of c)) (are_ordinary cs) e in
    k.next c cs rest (ordinary_in_word (class_of c) (cs ++ rest) p.0) (plain_run cs rest p.1 s)

pub word_step : (text rest : List ℕ) {ls : List Lexeme} → is_plain text ≡ true → encodes text ≡ text → word_goes_on rest ≡ false →
    Gives previous.Word rest ls → Gives previous.Apart (text ++ rest) (k.Word text ∷ ls)
word_step [] rest p e s g = cc
word_step (c ∷ cs) rest {ls} p e s g =
    subst (λ w. Gives previous.Apart (c ∷ cs ++ rest) (k.Word w ∷ ls)) e
    (lexeme {cs = c ∷ cs} {rest = rest} refl refl (k.word previous.Apart c cs rest refl (plain_run (c ∷ cs) rest p s)) g)

-- no operator goes on after these
pub left_brace_alone : (rest : List ℕ) → goes_on (123 ∷ []) rest ≡ false
left_brace_alone [] = refl
left_brace_alone (c ∷ cs) = refl

pub left_paren_alone : (rest : List ℕ) → goes_on (40 ∷ []) rest ≡ false
left_paren_alone [] = refl
left_paren_alone (c ∷ cs) = refl

pub copy_two_alone : (rest : List ℕ) → goes_on (62 ∷ 91 ∷ 50 ∷ 61 ∷ 49 ∷ 93 ∷ []) rest ≡ false
copy_two_alone [] = refl
copy_two_alone (c ∷ cs) = refl

pub copy_one_alone : (rest : List ℕ) → goes_on (62 ∷ 91 ∷ 49 ∷ 61 ∷ 50 ∷ 93 ∷ []) rest ≡ false
copy_one_alone [] = refl
copy_one_alone (c ∷ cs) = refl

semicolon_alone : (rest : List ℕ) → goes_on (59 ∷ []) rest ≡ false
semicolon_alone [] = refl
semicolon_alone (c ∷ cs) = refl

caret_alone : (rest : List ℕ) → goes_on (94 ∷ []) rest ≡ false
caret_alone [] = refl
caret_alone (c ∷ cs) = refl

equals_alone : (rest : List ℕ) → goes_on (61 ∷ []) rest ≡ false
equals_alone [] = refl
equals_alone (c ∷ cs) = refl

right_paren_alone : (rest : List ℕ) → goes_on (41 ∷ []) rest ≡ false
right_paren_alone [] = refl
right_paren_alone (c ∷ cs) = refl

right_brace_alone : (rest : List ℕ) → goes_on (125 ∷ []) rest ≡ false
right_brace_alone [] = refl
right_brace_alone (c ∷ cs) = refl

-- operators directly after a word, a quoted word or a name
pub semicolon_step : {prev : Previous} → IsCalm prev → (rest : List ℕ) {ls : List Lexeme} → Gives previous.Apart rest ls → Gives prev (59 ∷ rest) (k.Semicolon ∷ ls)
semicolon_step calm_apart rest g =
    lexeme {cs = 59 ∷ []} {rest = rest} refl refl (k.operated previous.Apart (59 ∷ []) rest k.Semicolon refl refl (λ e. cc) (semicolon_alone rest)) g
semicolon_step calm_word rest g =
    lexeme {cs = 59 ∷ []} {rest = rest} refl refl (k.operated previous.Word (59 ∷ []) rest k.Semicolon refl refl (λ e. cc) (semicolon_alone rest)) g
semicolon_step calm_quoted rest g =
    lexeme {cs = 59 ∷ []} {rest = rest} refl refl (k.operated previous.Quoted (59 ∷ []) rest k.Semicolon refl refl (λ e. cc) (semicolon_alone rest)) g
semicolon_step calm_name rest g =
    lexeme {cs = 59 ∷ []} {rest = rest} refl refl (k.operated previous.Name (59 ∷ []) rest k.Semicolon refl refl (λ e. cc) (semicolon_alone rest)) g

pub caret_step : {prev : Previous} → IsCalm prev → (rest : List ℕ) {ls : List Lexeme} → Gives previous.Apart rest ls → Gives prev (94 ∷ rest) (k.Caret ∷ ls)
caret_step calm_apart rest g =
    lexeme {cs = 94 ∷ []} {rest = rest} refl refl (k.operated previous.Apart (94 ∷ []) rest k.Caret refl refl (λ e. cc) (caret_alone rest)) g
caret_step calm_word rest g =
    lexeme {cs = 94 ∷ []} {rest = rest} refl refl (k.operated previous.Word (94 ∷ []) rest k.Caret refl refl (λ e. cc) (caret_alone rest)) g
caret_step calm_quoted rest g =
    lexeme {cs = 94 ∷ []} {rest = rest} refl refl (k.operated previous.Quoted (94 ∷ []) rest k.Caret refl refl (λ e. cc) (caret_alone rest)) g
caret_step calm_name rest g =
    lexeme {cs = 94 ∷ []} {rest = rest} refl refl (k.operated previous.Name (94 ∷ []) rest k.Caret refl refl (λ e. cc) (caret_alone rest)) g

pub equals_step : {prev : Previous} → IsCalm prev → (rest : List ℕ) {ls : List Lexeme} → Gives previous.Apart rest ls → Gives prev (61 ∷ rest) (k.Equals ∷ ls)
equals_step calm_apart rest g =
    lexeme {cs = 61 ∷ []} {rest = rest} refl refl (k.operated previous.Apart (61 ∷ []) rest k.Equals refl refl (λ e. cc) (equals_alone rest)) g
equals_step calm_word rest g =
    lexeme {cs = 61 ∷ []} {rest = rest} refl refl (k.operated previous.Word (61 ∷ []) rest k.Equals refl refl (λ e. cc) (equals_alone rest)) g
equals_step calm_quoted rest g =
    lexeme {cs = 61 ∷ []} {rest = rest} refl refl (k.operated previous.Quoted (61 ∷ []) rest k.Equals refl refl (λ e. cc) (equals_alone rest)) g
equals_step calm_name rest g =
    lexeme {cs = 61 ∷ []} {rest = rest} refl refl (k.operated previous.Name (61 ∷ []) rest k.Equals refl refl (λ e. cc) (equals_alone rest)) g

pub right_paren_step : {prev : Previous} → IsCalm prev → (rest : List ℕ) {ls : List Lexeme} → Gives previous.Apart rest ls → Gives prev (41 ∷ rest) (k.RightParen ∷ ls)
right_paren_step calm_apart rest g =
    lexeme {cs = 41 ∷ []} {rest = rest} refl refl (k.operated previous.Apart (41 ∷ []) rest k.RightParen refl refl (λ e. cc) (right_paren_alone rest)) g
right_paren_step calm_word rest g =
    lexeme {cs = 41 ∷ []} {rest = rest} refl refl (k.operated previous.Word (41 ∷ []) rest k.RightParen refl refl (λ e. cc) (right_paren_alone rest)) g
right_paren_step calm_quoted rest g =
    lexeme {cs = 41 ∷ []} {rest = rest} refl refl (k.operated previous.Quoted (41 ∷ []) rest k.RightParen refl refl (λ e. cc) (right_paren_alone rest)) g
right_paren_step calm_name rest g =
    lexeme {cs = 41 ∷ []} {rest = rest} refl refl (k.operated previous.Name (41 ∷ []) rest k.RightParen refl refl (λ e. cc) (right_paren_alone rest)) g

pub right_brace_step : {prev : Previous} → IsCalm prev → (rest : List ℕ) {ls : List Lexeme} → Gives previous.Apart rest ls → Gives prev (125 ∷ rest) (k.RightBrace ∷ ls)
right_brace_step calm_apart rest g =
    lexeme {cs = 125 ∷ []} {rest = rest} refl refl (k.operated previous.Apart (125 ∷ []) rest k.RightBrace refl refl (λ e. cc) (right_brace_alone rest)) g
right_brace_step calm_word rest g =
    lexeme {cs = 125 ∷ []} {rest = rest} refl refl (k.operated previous.Word (125 ∷ []) rest k.RightBrace refl refl (λ e. cc) (right_brace_alone rest)) g
right_brace_step calm_quoted rest g =
    lexeme {cs = 125 ∷ []} {rest = rest} refl refl (k.operated previous.Quoted (125 ∷ []) rest k.RightBrace refl refl (λ e. cc) (right_brace_alone rest)) g
right_brace_step calm_name rest g =
    lexeme {cs = 125 ∷ []} {rest = rest} refl refl (k.operated previous.Name (125 ∷ []) rest k.RightBrace refl refl (λ e. cc) (right_brace_alone rest)) g

-- a parenthesis directly after a keyword
pub paren_step : (rest : List ℕ) {ls : List Lexeme} → Gives previous.Apart rest ls → Gives previous.Word (40 ∷ rest) (k.LeftParen ∷ ls)
paren_step rest g = lexeme {cs = 40 ∷ []} {rest = rest} refl refl (k.operated previous.Word (40 ∷ []) rest k.LeftParen refl refl (λ e. cc)
    (left_paren_alone rest)) g
