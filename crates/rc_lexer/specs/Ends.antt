-- The end of a text, by spans, and finished readings.
use Rattle.std.specs.Prelude.{◌≡◌, ℕ, Bool, true, false, if◌then◌else◌, List, [], ◌∷◌, ◌++◌, map, slice_range}
use Rattle.std.specs.Prelude.{Option, Some, None, Result, Ok, Err}
use Rattle.std.specs.Str.{bytes_eq}
use Rattle.rc_model.specs.Syntax.Tokens as t
use Rattle.rc_model.specs.Syntax.Tokens.{PendingHereDoc}
use Rattle.rc_model.specs.Mirrors.Reading as r
use Rattle.rc_lexer.specs.Spans as spans
use Rattle.rc_lexer.specs.SpanLaws.{state_of, due_of, Stands}
use Rattle.rc_lexer.specs.Trie.{op_kind}
use Rattle.rc_lexer.specs.Views.{slice_at, tokens_of}
use Rattle.rc_lexer.specs.Answers.{ScriptError}
use Rattle.rc_model.specs.declared.fault.SyntaxFault.{SyntaxFault}
use Rattle.rc_model.specs.declared.fault.FaultKind.TheVariants.{BadDescriptor, OpenHere, OpenQuote}
use Rattle.rc_model.specs.declared.fault.InputError.TheVariants.{Fault, NoMemory}
use Rattle.rc_model.specs.declared.syntax.Place.{Place}
use Rattle.rc_lexer.specs.declared.Span.{Span}
use Rattle.rc_lexer.specs.declared.Token.{Token}
use Rattle.rc_lexer.specs.declared.TokenKind.{TokenKind}
use Rattle.rc_lexer.specs.declared.TokenKind.TheVariants as tk
use Rattle.rc_lexer.specs.declared.lexer_state.LexerState.{LexerState}
use Rattle.rc_lexer.specs.declared.lexer_state.LexerState.TheVariants as state
use Rattle.rc_lexer.specs.declared.lexer_state.TokenStart.{TokenStart}
use Rattle.rc_lexer.specs.declared.lexer_state.Reading.{Reading}

-- the outcome of the end: tokens and bodies, or a fault
abbrev pub Outcome : Type 0
Outcome = Result (List Token × List Span) SyntaxFault

-- the end after these tokens and bodies, if no here document is due
abbrev pub closed : List Token → List Span → List PendingHereDoc → Outcome
closed ts bodies [] = Ok (ts, bodies)
closed ts bodies (d ∷ due) = Err (t.fault OpenHere d.line)

-- the last word
abbrev pub ended : Bool → List ℕ → TokenStart → List PendingHereDoc → Place → Outcome
ended quoted script start due p =
    closed (spans.word_tokens quoted start.previous start.place p) []
    (spans.word_due quoted script start.previous start.place p due)

-- the last operator
abbrev pub finish_operator : TokenStart → List Token → Option TokenKind → List PendingHereDoc → Place → Outcome
finish_operator start dollars None due p = Err (t.fault BadDescriptor start.place.line)
finish_operator start dollars (Some kind) due p =
    closed (spans.bare dollars ++ spans.tokens_of start.previous (spans.meaning start.previous kind) start.place p) []
    due

-- the last line of a body
abbrev pub finish_line : List ℕ → ℕ → ℕ → PendingHereDoc → List PendingHereDoc → Outcome
finish_line [] body line d due = Err (t.fault OpenHere d.line)
finish_line (b ∷ bs) body line d due =
    if bytes_eq (b ∷ bs) d.mark then closed [] (record { start = body; stop = line } ∷ []) due
    else Err (t.fault OpenHere d.line)

-- the end, in each state
abbrev pub finish : List ℕ → LexerState → List Token → List PendingHereDoc → Place → Outcome
finish script (state.Between prev) dollars due p = closed (spans.bare_here prev) [] due
finish script state.Comment dollars due p = closed [] [] due
finish script (state.Backslash start) dollars due p = ended false script start due p
finish script (state.WordBackslash start q) dollars due p = ended false script start due p
finish script (state.Word start) dollars due p = ended false script start due p
finish script (state.Name q) dollars due p = closed (spans.token tk.Name q p ∷ []) [] due
finish script (state.Quoted start) dollars due p = Err (t.fault OpenQuote start.place.line)
finish script (state.Closed start) dollars due p = ended true script start due p
finish script (state.Operator start op) dollars due p = finish_operator start dollars (op_kind op) due p
finish script (state.Body body line) dollars [] p = closed [] [] []
finish script (state.Body body line) dollars (d ∷ due) p = finish_line (slice_range script line p.byte) body line d due

-- an outcome as the definitions see it
abbrev pub outcome_seen : List ℕ → Outcome → t.Outcome
outcome_seen script (Ok x) = Ok (tokens_of script x.0, map (slice_at script) x.1)
outcome_seen script (Err f) = Err f

-- The end by spans is the end of the machine.
abbrev pub EndsLaw : Type 0
EndsLaw = (script : List ℕ) (s : LexerState) (dollars : List Token) (due : List PendingHereDoc) (p : Place) →
    Stands script p.byte s → outcome_seen script (finish script s dollars due p)
    ≡ r.finish (state_of script p.byte dollars due s) (due_of due s) p

-- an outcome, after these tokens and bodies
abbrev pub after : List Token → List Span → Outcome → Outcome
after ts bodies (Ok x) = Ok (ts ++ x.0, bodies ++ x.1)
after ts bodies (Err f) = Err f

-- the reading ends this way, or memory ran out
abbrev pub Ends : Reading → Reading → Result (Unit {0}) ScriptError → Outcome → Type 0
Ends old new (Ok u) x = after old.tokens.items old.bodies.items x ≡ Ok (new.tokens.items, new.bodies.items)
Ends old new (Err (Fault f)) x = x ≡ Err f
Ends old new (Err NoMemory) x = Unit {0}

-- no here document is due, or the first one that is due has no body
abbrev pub IsClosed : List PendingHereDoc → Result (Unit {0}) ScriptError → Type 0
IsClosed due (Ok u) = closed [] [] due ≡ Ok ([], [])
IsClosed due (Err (Fault f)) = closed [] [] due ≡ Err f
IsClosed due (Err NoMemory) = ⊥
