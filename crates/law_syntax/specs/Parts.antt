-- Scripts that are read in parts.
use Rattle.std.specs.Prelude.{◌≡◌, ℕ, Bool, true, false, List, [], ◌∷◌, ◌++◌, Ok, IsUtf8}
use Rattle.rc_model.specs.Syntax.Accepted.{lexemes}
use Rattle.rc_model.specs.Syntax.Tokens.{Lexeme, Newline, BareHere, Token, Lexes}
use Rattle.rc_model.specs.Syntax.Grammar.{Phrase, Level, Out, past_blanks}
use Rattle.rc_model.specs.Syntax.Grammar as g

-- whether there is a next token
abbrev pub has_next : List Lexeme → Bool
has_next [] = false
has_next (t ∷ ts) = true

-- what a phrase of this level looks at after its end: inside parentheses an argument looks past newlines
abbrev pub ahead : Level → List Lexeme → List Lexeme
ahead (g.arg inside) rest = past_blanks inside rest
ahead (g.parts inside) rest = past_blanks inside rest
ahead l rest = rest

-- A phrase before the last of the tokens so far is the same phrase when more tokens follow.
abbrev pub ExtendsPhrases : Type 0
ExtendsPhrases =
    (l : Level) (ts rest us : List Lexeme) (x : Out l) → Phrase l ts x rest → has_next (ahead l rest) ≡ true →
    Phrase l (ts ++ us) x (rest ++ us)

-- these are the last of the tokens
abbrev pub IsTail : List Lexeme → List Lexeme → Type 0
IsTail rest ts = (front : List Lexeme) × (ts ≡ front ++ rest)

-- What is left after a phrase is the end of its tokens.
abbrev pub LeavesTails : Type 0
LeavesTails = (l : Level) (ts rest : List Lexeme) (x : Out l) → Phrase l ts x rest → IsTail rest ts

-- the last of these lexemes after a first one
abbrev pub last_after : Lexeme → List Lexeme → Lexeme
last_after l [] = l
last_after l (m ∷ ms) = last_after m ms

-- the last of these lexemes; a `<<` without a mark stands for none
abbrev pub last_of : List Lexeme → Lexeme
last_of ls = last_after BareHere ls

-- A text that ends with a newline, as its last token is one, is read apart from what follows it: the lexemes of both
-- are those of the whole.
abbrev pub JoinsParts : Type 0
JoinsParts =
    (front second : List ℕ) (ts us : List Token) → IsUtf8 (front ++ 10 ∷ []) → IsUtf8 second →
    Lexes (front ++ 10 ∷ []) (Ok ts) → last_of (lexemes ts) ≡ Newline → Lexes second (Ok us) →
    (vs : List Token) × Lexes ((front ++ 10 ∷ []) ++ second) (Ok vs) × (lexemes vs ≡ lexemes ts ++ lexemes us)

-- So the second of two such parts is what the whole has after the first.
abbrev pub SplitsParts : Type 0
SplitsParts =
    (front second : List ℕ) (ts vs : List Token) → IsUtf8 (front ++ 10 ∷ []) → IsUtf8 second →
    Lexes (front ++ 10 ∷ []) (Ok ts) → last_of (lexemes ts) ≡ Newline → Lexes ((front ++ 10 ∷ []) ++ second) (Ok vs) →
    (us : List Token) × Lexes second (Ok us) × (lexemes vs ≡ lexemes ts ++ lexemes us)
