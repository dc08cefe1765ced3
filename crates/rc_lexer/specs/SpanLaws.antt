-- The meaning of spans of a text, and the law of the machine over spans.
use Rattle.std.specs.Prelude.{◌≡◌, ℕ, false, ◌+◌, ◌≤◌, List, [], ◌∷◌, ◌++◌, map, slice_range, Ok, Err}
use Rattle.rc_model.specs.Syntax.Tokens as t
use Rattle.rc_model.specs.Syntax.Tokens.{PendingHereDoc}
use Rattle.rc_model.specs.Mirrors.Reading as r
use Rattle.law_syntax.specs.ByteReading as bytes
use Rattle.rc_lexer.specs.Spans as spans
use Rattle.rc_lexer.specs.Spans.{AfterByte}
use Rattle.rc_lexer.specs.Trie.{spelled}
use Rattle.rc_lexer.specs.Views.{slice_at, tokens_of}
use Rattle.rc_model.specs.declared.syntax.Place.{Place}
use Rattle.rc_model.specs.declared.syntax.Previous.TheVariants as previous
use Rattle.rc_lexer.specs.declared.Token.{Token}
use Rattle.rc_lexer.specs.declared.lexer_state.LexerState.{LexerState}
use Rattle.rc_lexer.specs.declared.lexer_state.LexerState.TheVariants.{Between, Comment, Backslash, WordBackslash}
use Rattle.rc_lexer.specs.declared.lexer_state.LexerState.TheVariants.{Word, Name}
use Rattle.rc_lexer.specs.declared.lexer_state.LexerState.TheVariants.{Quoted, Closed, Operator, Body}

-- the body of the first here document that is due
abbrev pub body_of : List PendingHereDoc → List ℕ → List ℕ → r.LexerState
body_of [] body line = r.Between previous.Apart
body_of (d ∷ due) body line = r.Body d body line

-- all but the first
abbrev pub after_first : List PendingHereDoc → List PendingHereDoc
after_first [] = []
after_first (d ∷ due) = due

-- the state of a machine that has read this many bytes of the script
abbrev pub state_of : List ℕ → ℕ → List Token → List PendingHereDoc → LexerState → r.LexerState
state_of script end dollars due (Between prev) = r.Between prev
state_of script end dollars due Comment = r.Comment
state_of script end dollars due (Backslash start) = r.Backslash start.previous start.place
state_of script end dollars due (WordBackslash start q) =
    r.WordBackslash start.previous start.place (slice_range script start.place.byte q.byte) q
state_of script end dollars due (Word start) =
    r.Word start.previous start.place (slice_range script start.place.byte end)
state_of script end dollars due (Name p) = r.Name p (slice_range script p.byte end)
state_of script end dollars due (Quoted start) =
    r.Quoted start.previous start.place (slice_range script start.place.byte end)
state_of script end dollars due (Closed start) =
    r.Closed start.previous start.place (slice_range script start.place.byte end)
state_of script end dollars due (Operator start op) =
    r.Operator start.previous (tokens_of script dollars) start.place (spelled op)
state_of script end dollars due (Body body line) =
    body_of due (slice_range script body line) (slice_range script line end)

-- the here documents that are due after the one whose body is read, if one is
abbrev pub due_of : List PendingHereDoc → LexerState → List PendingHereDoc
due_of due (Body body line) = after_first due
due_of due s = due

-- the state describes the part of the script before this byte
abbrev pub Stands : List ℕ → ℕ → LexerState → Type 0
Stands script end (Backslash start) = (start.place.byte ≤ end) × (slice_range script start.place.byte end ≡ 92 ∷ [])
Stands script end (WordBackslash start q) =
    (start.place.byte ≤ q.byte) × (q.byte ≤ end) ×
    (slice_range script start.place.byte end ≡ slice_range script start.place.byte q.byte ++ 92 ∷ [])
Stands script end (Word start) = start.place.byte ≤ end
Stands script end (Name p) = p.byte ≤ end
Stands script end (Quoted start) = start.place.byte ≤ end
Stands script end (Closed start) = start.place.byte ≤ end
Stands script end (Operator start op) = (start.place.byte ≤ end) × (t.awaits_mark start.previous ≡ false)
Stands script end (Body body line) = (body ≤ line) × (line ≤ end)
Stands script end s = Unit {0}

-- a step as the definitions see it
abbrev pub seen : List ℕ → ℕ → AfterByte → r.AfterCharacter
seen script end (Ok x) =
    Ok (tokens_of script x.0, map (slice_at script) x.1, state_of script end x.3 x.4 x.2, due_of x.4 x.2)
seen script end (Err f) = Err f

-- this is the byte after so many others
abbrev pub StandsAt : List ℕ → ℕ → ℕ → Type 0
StandsAt script at b = (a : ℕ) → a ≤ at → slice_range script a (at + 1) ≡ slice_range script a at ++ b ∷ []

-- the state after a step describes the script
abbrev pub StandsAfter : List ℕ → ℕ → AfterByte → Type 0
StandsAfter script end (Ok x) = Stands script end x.2
StandsAfter script end (Err f) = Unit {0}

-- The machine over spans does what the machine over bytes does.
abbrev pub SpansLaw : Type 0
SpansLaw = (script : List ℕ) (s : LexerState) (dollars : List Token) (due : List PendingHereDoc) (p : Place) (b : ℕ) →
    StandsAt script p.byte b → Stands script p.byte s →
    seen script (p.byte + 1) (spans.step script s dollars due p b (spans.byte_class b))
    ≡ bytes.step (state_of script p.byte dollars due s) (due_of due s) p b (t.class_of b)

-- and the state that it reaches describes the script
abbrev pub StandsLaw : Type 0
StandsLaw = (script : List ℕ) (s : LexerState) (dollars : List Token) (due : List PendingHereDoc) (p : Place) (b : ℕ) →
    StandsAt script p.byte b → Stands script p.byte s →
    StandsAfter script (p.byte + 1) (spans.step script s dollars due p b (spans.byte_class b))
