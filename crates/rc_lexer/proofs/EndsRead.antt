-- The end by spans is the end of the machine.
use Rattle.std.proofs.Common.{◌≡◌, ℕ, Bool, true, false, cond, List, [], ◌∷◌, ◌++◌, map, refl, sym, ap, ◌∙◌}
use Rattle.std.specs.Prelude.{Option, Some, None, option_map, Err, slice_range}
use Rattle.std.specs.Str.{bytes_eq}
use Rattle.rc_model.specs.Syntax.Tokens as t
use Rattle.rc_model.specs.Syntax.Tokens.{PendingHereDoc}
use Rattle.rc_model.specs.Mirrors.Reading as r
use Rattle.rc_lexer.specs.Spans as spans
use Rattle.rc_lexer.specs.Trie.{op_kind}
use Rattle.rc_lexer.specs.Views.{slice_at, tokens_of, lexeme_of}
use Rattle.rc_lexer.specs.Ends as e
use Rattle.rc_lexer.specs.Ends.{outcome_seen, EndsLaw}
use Rattle.rc_lexer.proofs.TrieIs.{kind_is}
use Rattle.rc_lexer.proofs.Meanings.{meaning_same}
use Rattle.rc_lexer.proofs.SpansRead.{bare_here_seen, word_lexeme, word_tokens_seen, word_due_seen, bare_seen, seen_append, tokens_seen, tokens_apart, lexeme_tokens}
use Rattle.rc_model.specs.declared.syntax.Place.{Place}
use Rattle.rc_lexer.specs.declared.Span.{Span}
use Rattle.rc_lexer.specs.declared.Token.{Token}
use Rattle.rc_lexer.specs.declared.TokenKind.{TokenKind}
use Rattle.rc_lexer.specs.declared.TokenKind.TheVariants as tk
use Rattle.rc_model.specs.declared.fault.FaultKind.TheVariants.{OpenHere}
use Rattle.rc_lexer.specs.declared.lexer_state.LexerState.TheVariants as state
use Rattle.rc_lexer.specs.declared.lexer_state.TokenStart.{TokenStart}

closed_seen : (script : List ℕ) (ts : List Token) (bodies : List Span) (due : List PendingHereDoc) →
    outcome_seen script (e.closed ts bodies due) ≡ r.closed (tokens_of script ts) (map (slice_at script) bodies) due
closed_seen script ts bodies [] = refl
closed_seen script ts bodies (d ∷ due) = refl

ended_seen : (script : List ℕ) (quoted : Bool) (start : TokenStart) (text : List ℕ) (due : List PendingHereDoc) (p : Place) → slice_range script start.place.byte p.byte ≡ text →
    outcome_seen script (e.ended quoted script start due p) ≡ r.ended start.previous (word_lexeme quoted text) start.place due p
ended_seen script quoted start text due p h =
    closed_seen script (spans.word_tokens quoted start.previous start.place p) [] (spans.word_due quoted script start.previous start.place p due)
    ∙ ap (λ z. r.closed z [] (spans.word_due quoted script start.previous start.place p due)) (word_tokens_seen script quoted start.previous start.place p)
    ∙ ap (λ z. r.closed (t.tokens_of start.previous (word_lexeme quoted (slice_range script start.place.byte p.byte)) start.place p) [] z) (word_due_seen script quoted start.previous start.place p due)
    ∙ ap (λ z. r.ended start.previous (word_lexeme quoted z) start.place due p) h

operator_seen : (script : List ℕ) (start : TokenStart) (dollars : List Token) (o : Option TokenKind) (due : List PendingHereDoc) (p : Place) → t.awaits_mark start.previous ≡ false →
    outcome_seen script (e.finish_operator start dollars o due p)
    ≡ r.finish_operator start.previous (tokens_of script dollars) start.place (option_map (λ kind. lexeme_of script kind (slice_range script start.place.byte p.byte)) o) due p
operator_seen script start dollars None due p a = refl
operator_seen script start dollars (Some kind) due p a =
    let prev = start.previous in
    let kind' = spans.meaning prev kind in
    let text = slice_range script start.place.byte p.byte in
    closed_seen script (spans.bare dollars ++ spans.tokens_of prev kind' start.place p) [] due
    ∙ ap (λ z. r.closed z [] due)
    (seen_append script (spans.bare dollars) (spans.tokens_of prev kind' start.place p)
    ∙ ap (λ z. z ++ tokens_of script (spans.tokens_of prev kind' start.place p)) (bare_seen script dollars)
    ∙ ap (λ z. r.bare (tokens_of script dollars) ++ z)
    (tokens_seen script prev kind' start.place p ∙ ap (λ z. lexeme_tokens prev z start.place p) (meaning_same prev kind script text)
    ∙ tokens_apart prev (t.meant prev [] (lexeme_of script kind text)) start.place p a))

line_by : (script xs : List ℕ) (body line : ℕ) (d : PendingHereDoc) (due : List PendingHereDoc) (p : Place) →
    outcome_seen script (e.finish_line xs body line d due) ≡ r.finish (r.Body d (slice_range script body line) xs) due p
line_by script [] body line d due p = refl
line_by script (b ∷ bs) body line d due p = by (bytes_eq (b ∷ bs) d.mark)
  where
    by : (v : Bool) → outcome_seen script (cond v (e.closed [] (record { start = body; stop = line } ∷ []) due) (Err (t.fault OpenHere d.line)))
        ≡ cond v (r.closed [] (slice_range script body line ∷ []) due) (Err (t.fault OpenHere d.line))
    by true = closed_seen script [] (record { start = body; stop = line } ∷ []) due
    by false = refl

pub law : EndsLaw
law script (state.Between prev) dollars due p h = closed_seen script (spans.bare_here prev) [] due ∙ ap (λ z. r.closed z [] due) (bare_here_seen script prev)
law script state.Comment dollars due p h = closed_seen script [] [] due
law script (state.Backslash start) dollars due p h = ended_seen script false start (92 ∷ []) due p h.1
law script (state.WordBackslash start q) dollars due p h = ended_seen script false start (slice_range script start.place.byte q.byte ++ 92 ∷ []) due p h.2
law script (state.Word start) dollars due p h = ended_seen script false start (slice_range script start.place.byte p.byte) due p refl
law script (state.Name q) dollars due p h = closed_seen script (spans.token tk.Name q p ∷ []) [] due
law script (state.Quoted start) dollars due p h = refl
law script (state.Closed start) dollars due p h = ended_seen script true start (slice_range script start.place.byte p.byte) due p refl
law script (state.Operator start op) dollars due p h =
    operator_seen script start dollars (op_kind op) due p h.1
    ∙ ap (λ z. r.finish_operator start.previous (tokens_of script dollars) start.place z due p) (sym (kind_is op script (slice_range script start.place.byte p.byte)))
law script (state.Body body line) dollars [] p h = refl
law script (state.Body body line) dollars (d ∷ due) p h = line_by script (slice_range script line p.byte) body line d due p
