-- Lexemes, tokens and places, and which characters continue a piece of a text.
use Rattle.std.specs.Prelude.{ℕ, suc, ◌+◌, Bool, true, false, not, if◌then◌else◌, ◌==◌, ◌||◌, ◌&&◌, nat_le}
use Rattle.std.specs.Prelude.{List, [], ◌∷◌, ◌++◌, find, codes}
use Rattle.std.specs.Prelude.{Option, option_map}
use Rattle.std.specs.Char.{len_utf8}
use Rattle.std.specs.List.{list_any}
use Rattle.std.specs.Str.{bytes_eq}
use Rattle.rc_model.specs.Run.Calls.{Mode, Read, Write, Append}
use Rattle.rc_model.specs.Syntax.Text.{begins_with}
use Rattle.rc_model.specs.declared.syntax.Place.{Place}
use Rattle.rc_model.specs.declared.syntax.Class.{Class}
use Rattle.rc_model.specs.declared.syntax.Class.TheVariants.{Operates, Blank, LineEnd, Hash, Quote, Backslash}
use Rattle.rc_model.specs.declared.syntax.Class.TheVariants.{Ordinary}
pub use Rattle.rc_model.specs.Syntax.Faults.{SyntaxFault, fault, OpenQuote, OpenHere, BadDescriptor, ZeroByte}

-- what a token is
pub data Lexeme : Type 0 where
  -- an unquoted word, and the text of a quoted word
  Word : (text : List ℕ) → Lexeme
  Quoted : (text : List ℕ) → Lexeme
  -- `;` `&` newline `&&` `||`
  Semicolon : Lexeme
  Ampersand : Lexeme
  Newline : Lexeme
  AndAnd : Lexeme
  OrOr : Lexeme
  -- `|` with the descriptor that goes into the pipe
  Bar : (slot : ℕ) → Lexeme
  -- a `^` that is written, and one that is inserted between two tokens with nothing between them
  Caret : Lexeme
  FreeCaret : Lexeme
  -- `=` `(` `)` `{` `}` and the backquote
  Equals : Lexeme
  LeftParen : Lexeme
  RightParen : Lexeme
  LeftBrace : Lexeme
  RightBrace : Lexeme
  Backquote : Lexeme
  -- `<` `>` `>>` with the descriptor; a copy of one descriptor to another; `<<` with its mark, as the text of its body
  Redirection : Mode → (slot : ℕ) → Lexeme
  CopyTo : (to from : ℕ) → Lexeme
  HereDoc : (quoted : Bool) → (body : List ℕ) → Lexeme
  -- `$` `$#` `$"` with a name after them, a name that is not quoted, and a `(` directly after a name
  Dollar : Lexeme
  DollarCount : Lexeme
  DollarFlat : Lexeme
  Name : (text : List ℕ) → Lexeme
  Subscript : Lexeme
  -- `$` `$#` `$"` with no name after them, and `<<` with no mark after it: no command takes them
  BareDollar : Lexeme
  BareHere : Lexeme

-- a lexeme with its span, in bytes, and the line where it begins
pub record Token : Type 0 where
  pub lexeme : Lexeme
  pub start : ℕ
  pub stop : ℕ
  pub line : ℕ

-- the place of the first character
abbrev pub first_place : Place
first_place = record { byte = 0; line = 1 }

-- the place after a character
abbrev pub after_char : Place → ℕ → Place
after_char p c = record { byte = p.byte + len_utf8 c; line = if c == 10 then suc p.line else p.line }

-- after several characters
abbrev pub after_chars : Place → List ℕ → Place
after_chars p [] = p
after_chars p (c ∷ cs) = after_chars (after_char p c) cs

-- the token between two places
abbrev pub token : Lexeme → Place → Place → Token
token l p q = record { lexeme = l; start = p.byte; stop = q.byte; line = p.line }

-- how each operator is spelled: no `<<` has a mark yet, and each `$` is taken to have a name
abbrev pub operators : List (List ℕ × Lexeme)
operators =
    (codes ";", Semicolon) ∷ (codes "&", Ampersand) ∷ (codes "&&", AndAnd) ∷ (codes "||", OrOr)
    ∷ (codes "|", Bar 1) ∷ (codes "|[1]", Bar 1) ∷ (codes "|[2]", Bar 2)
    ∷ (codes "^", Caret) ∷ (codes "=", Equals) ∷ (codes "(", LeftParen) ∷ (codes ")", RightParen)
    ∷ (codes "{", LeftBrace) ∷ (codes "}", RightBrace) ∷ (codes "`", Backquote)
    ∷ (codes ">", Redirection Write 1) ∷ (codes ">[1]", Redirection Write 1) ∷ (codes ">[2]", Redirection Write 2)
    ∷ (codes ">>", Redirection Append 1) ∷ (codes ">>[1]", Redirection Append 1) ∷ (codes ">>[2]", Redirection Append 2)
    ∷ (codes "<", Redirection Read 0) ∷ (codes "<[0]", Redirection Read 0) ∷ (codes ">[1=2]", CopyTo 1 2)
    ∷ (codes ">[2=1]", CopyTo 2 1)
    ∷ (codes "<<", BareHere) ∷ (codes "<<[0]", BareHere)
    ∷ (codes "$", Dollar) ∷ (codes "$#", DollarCount) ∷ (36 ∷ 34 ∷ [], DollarFlat) ∷ []

-- the operator with this spelling
abbrev pub operator : List ℕ → Option Lexeme
operator cs = option_map (λ o. o.1) (find (λ o. bytes_eq o.0 cs) operators)

-- some operator begins with these characters
abbrev pub begins_operator : List ℕ → Bool
begins_operator cs = list_any (λ o. begins_with cs o.0) operators

-- some operator begins with these characters and the next one of the text
abbrev pub goes_on : List ℕ → List ℕ → Bool
goes_on cs [] = false
goes_on cs (c ∷ rest) = begins_operator (cs ++ c ∷ [])

-- what a character is outside of quotes and comments
abbrev pub class_of : ℕ → Class
class_of c =
    if begins_operator (c ∷ []) then Operates
    else (if (c == 32) || (c == 9) then Blank
    else (if c == 10 then LineEnd else (if c == 35 then Hash else (if c == 39 then Quote
    else (if c == 92 then Backslash else Ordinary)))))

-- whether a newline comes next
abbrev pub at_newline : List ℕ → Bool
at_newline [] = false
at_newline (c ∷ cs) = c == 10

-- a backslash is part of a word unless a newline follows it
abbrev pub is_in_word : Class → List ℕ → Bool
is_in_word Ordinary rest = true
is_in_word Backslash rest = not (at_newline rest)
is_in_word _ rest = false

-- the text goes on with a character of an unquoted word
abbrev pub word_goes_on : List ℕ → Bool
word_goes_on [] = false
word_goes_on (c ∷ cs) = is_in_word (class_of c) cs

-- ASCII letters, digits, `_` and `*`
abbrev pub is_name_char : ℕ → Bool
is_name_char c =
    (nat_le 48 c && nat_le c 57) || (nat_le 65 c && nat_le c 90) || (nat_le 97 c &&
    nat_le c 122) || (c == 95) || (c == 42)

-- a name goes on
abbrev pub name_goes_on : List ℕ → Bool
name_goes_on [] = false
name_goes_on (c ∷ cs) = is_name_char c

-- a line goes on
abbrev pub line_goes_on : List ℕ → Bool
line_goes_on [] = false
line_goes_on (c ∷ cs) = not (c == 10)

-- a name is next: a name character, a quote, or a `$` with a name after it
abbrev pub names : List ℕ → Bool
names [] = false
names (c ∷ cs) = if is_name_char c || (c == 39) then true else (if c == 36 then names cs else false)
