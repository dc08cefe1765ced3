-- The texts and descriptors that the lexemes of a script can have.
use Rattle.std.specs.Prelude.{◌≡◌, ◌≢◌, ℕ, true, List, [], ◌∷◌, map, Ok, IsUtf8}
use Rattle.std.specs.List.{list_all}
use Rattle.std.specs.Str.{chars}
use Rattle.rc_model.specs.Syntax.Text.{without_zero}
use Rattle.rc_model.specs.Syntax.Tokens.{Lexeme, Token, Lexes, Word, Quoted, Bar, Redirection, CopyTo, HereDoc, Name}
use Rattle.rc_model.specs.Syntax.Tokens.{IsLongestRun, word_goes_on, is_name_char}
use Rattle.rc_model.specs.Syntax.WellFormed.{is_output, opens, copies}

-- text without byte 0
abbrev pub IsText : List ℕ → Type 0
IsText text = IsUtf8 text × (without_zero (chars text) ≡ true)

-- an unquoted word: its characters are a longest run, none of them an operator, a blank or a quote
abbrev pub IsWord : List ℕ → Type 0
IsWord text = IsText text × ((text ≢ []) × IsLongestRun word_goes_on (chars text) [])

-- a name that is not quoted
abbrev pub IsName : List ℕ → Type 0
IsName text = (text ≢ []) × (list_all is_name_char text ≡ true)

-- words and names follow their rules, and descriptors are those of the language
abbrev pub IsSpelled : Lexeme → Type 0
IsSpelled (Word text) = IsWord text
IsSpelled (Quoted text) = IsText text
IsSpelled (Name text) = IsName text
IsSpelled (HereDoc quoted body) = IsText body
IsSpelled (Bar slot) = is_output slot ≡ true
IsSpelled (Redirection mode slot) = opens mode slot ≡ true
IsSpelled (CopyTo to from) = copies to from ≡ true
IsSpelled _ = Unit {0}

-- so do all of them
abbrev pub AreSpelled : List Lexeme → Type 0
AreSpelled [] = Unit {0}
AreSpelled (l ∷ ls) = IsSpelled l × AreSpelled ls

-- the lexemes of a text follow these rules
abbrev pub SpellingLaw : Type 0
SpellingLaw =
    (text : List ℕ) (tokens : List Token) → IsUtf8 text → Lexes text (Ok tokens) →
    AreSpelled (map (λ t. t.lexeme) tokens)
