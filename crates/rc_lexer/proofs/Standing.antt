-- What the machine over spans comes to stands.
use Rattle.std.proofs.Common.{◌≡◌, ℕ, ◌+◌, ◌≤◌, Bool, true, false, cond, ◌==◌, ◌||◌, List, [], ◌∷◌, ◌++◌, refl, sym, ap, ◌∙◌, arith}
use Rattle.std.specs.Prelude.{Option, Some, None, Ok, Err, slice_range}
use Rattle.std.specs.Str.{bytes_eq}
use Rattle.rc_model.specs.Syntax.Tokens as t
use Rattle.rc_model.specs.Syntax.Tokens.{PendingHereDoc}
use Rattle.law_syntax.proofs.Ascii.{apart}
use Rattle.law_syntax.proofs.Steps.{backslash_is}
use Rattle.rc_lexer.specs.Spans as spans
use Rattle.rc_lexer.specs.Spans.{AfterByte, starts}
use Rattle.rc_lexer.specs.SpanLaws.{Stands, StandsAt, StandsAfter, StandsLaw}
use Rattle.rc_lexer.specs.Trie.{first_op, next_op, op_kind}
use Rattle.rc_lexer.proofs.SpansRead.{slice_empty}
use Rattle.rc_lexer.proofs.ClassOf.{seen_class, class_is}
use Rattle.rc_model.specs.declared.syntax.Place.{Place}
use Rattle.rc_model.specs.declared.syntax.Previous.{Previous}
use Rattle.rc_model.specs.declared.syntax.Previous.TheVariants as previous
use Rattle.rc_lexer.specs.declared.Span.{Span}
use Rattle.rc_lexer.specs.declared.Token.{Token}
use Rattle.rc_lexer.specs.declared.TokenKind.{TokenKind}
use Rattle.rc_lexer.specs.declared.TokenKind.TheVariants as tk
use Rattle.rc_lexer.specs.declared.operators.Op.{Op}
use Rattle.rc_lexer.specs.declared.lexer_state.LexerState.{LexerState}
use Rattle.rc_lexer.specs.declared.lexer_state.LexerState.TheVariants as state
use Rattle.rc_lexer.specs.declared.lexer_state.TokenStart.{TokenStart}
use Rattle.rc_lexer.specs.declared.byte_classes.ByteClass.{ByteClass}
use Rattle.rc_lexer.specs.declared.byte_classes.ByteClass.TheVariants.{Alone, Begins, Blank, LineEnd, Hash, Quote, Backslash, Ordinary}

-- a backslash stands there
abbrev IsThere : ByteClass → ℕ → Type 0
IsThere Backslash b = b ≡ 92
IsThere _ b = Unit {0}

there : (b : ℕ) (k : ByteClass) → seen_class k ≡ t.class_of b → IsThere k b
there b Backslash e = backslash_is b (sym e)
there b k e = tt

emit_stands : (script : List ℕ) (end : ℕ) (ts : List Token) (x : AfterByte) → StandsAfter script end x → StandsAfter script end (spans.emit ts x)
emit_stands script end ts (Ok x) h = h
emit_stands script end ts (Err f) h = h

line_stands : (script : List ℕ) (at : ℕ) (ts : List Token) (bodies : List Span) (due : List PendingHereDoc) → StandsAfter script at (spans.begin_line ts bodies due at)
line_stands script at ts bodies [] = tt
line_stands script at ts bodies (d ∷ due) = (omega arith, omega arith)

one_byte : (script : List ℕ) (at b : ℕ) → StandsAt script at b → b ≡ 92 → slice_range script at (at + 1) ≡ 92 ∷ []
one_byte script at b h e = h at (omega arith) ∙ ap (λ z. z ++ b ∷ []) (slice_empty script at) ∙ ap (λ z. z ∷ []) e

name_or_word : (script : List ℕ) (prev : Previous) (p : Place) (v : Bool) → Stands script (p.byte + 1) (cond v (state.Name p) (state.Word (starts prev p)))
name_or_word script prev p true = omega arith
name_or_word script prev p false = omega arith

begin_stands : (script : List ℕ) (prev : Previous) (due : List PendingHereDoc) (p : Place) (b : ℕ) (k : ByteClass) → StandsAt script p.byte b → IsThere k b →
    StandsAfter script (p.byte + 1) (spans.begin prev due p b k)
begin_stands script prev due p b Alone h i = tt
begin_stands script prev due p b Begins h i = (omega arith, apart prev)
begin_stands script prev due p b Blank h i = tt
begin_stands script prev due p b LineEnd h i = line_stands script (p.byte + 1) _ [] due
begin_stands script prev due p b Hash h i = tt
begin_stands script prev due p b Quote h i = omega arith
begin_stands script prev due p b Backslash h i = (omega arith, one_byte script p.byte b h i)
begin_stands script prev due p b Ordinary h i = name_or_word script prev p (t.begins_name prev b)

word_stands : (script : List ℕ) (quoted : Bool) (start : TokenStart) (due : List PendingHereDoc) (p : Place) (b : ℕ) (k : ByteClass) → StandsAt script p.byte b → IsThere k b →
    StandsAfter script (p.byte + 1) (spans.ends_word quoted script start due p b k)
word_stands script quoted start due p b k h i =
    emit_stands script (p.byte + 1) (spans.word_tokens quoted start.previous start.place p)
    (spans.begin (spans.word_after quoted start.previous) (spans.word_due quoted script start.previous start.place p due) p b k)
    (begin_stands script (spans.word_after quoted start.previous) (spans.word_due quoted script start.previous start.place p due) p b k h i)

in_word_stands : (script : List ℕ) (start : TokenStart) (due : List PendingHereDoc) (p : Place) (b : ℕ) (k : ByteClass) → StandsAt script p.byte b → IsThere k b →
    start.place.byte ≤ p.byte → StandsAfter script (p.byte + 1) (spans.in_word script start due p b k)
in_word_stands script start due p b Ordinary h i g = omega (arith, g)
in_word_stands script start due p b Backslash h i g = (g, omega arith, h start.place.byte g ∙ ap (λ z. slice_range script start.place.byte p.byte ++ z ∷ []) i)
in_word_stands script start due p b k h i g = word_stands script false start due p b k h i

dollars_by : (script : List ℕ) (dollars : List Token) (due : List PendingHereDoc) (p : Place) (b : ℕ) (k : ByteClass) (v w : Bool) → StandsAt script p.byte b → IsThere k b →
    StandsAfter script (p.byte + 1) (cond v (spans.emit dollars (spans.begin previous.Dollar due p b k))
    (cond w (Ok ([], [], state.Operator (starts previous.Dollar p) (first_op 36), dollars, due)) (spans.emit (spans.bare dollars) (spans.begin previous.Apart due p b k))))
dollars_by script dollars due p b k true w h i = emit_stands script (p.byte + 1) dollars (spans.begin previous.Dollar due p b k) (begin_stands script previous.Dollar due p b k h i)
dollars_by script dollars due p b k false true h i = (omega arith, refl)
dollars_by script dollars due p b k false false h i =
    emit_stands script (p.byte + 1) (spans.bare dollars) (spans.begin previous.Apart due p b k) (begin_stands script previous.Apart due p b k h i)

dollars_stand : (script : List ℕ) (dollars : List Token) (due : List PendingHereDoc) (p : Place) (b : ℕ) (k : ByteClass) → StandsAt script p.byte b → IsThere k b →
    StandsAfter script (p.byte + 1) (spans.after_dollars dollars due p b k)
dollars_stand script dollars due p b k h i = dollars_by script dollars due p b k (t.is_name_char b || (b == 39)) (b == 36) h i

ended_stands : (script : List ℕ) (start : TokenStart) (dollars : List Token) (o : Option TokenKind) (due : List PendingHereDoc) (p : Place) (b : ℕ) (k : ByteClass) → StandsAt script p.byte b → IsThere k b →
    StandsAfter script (p.byte + 1) (spans.end_operator start dollars o due p b k)
ended_stands script start dollars None due p b k h i = tt
ended_stands script start dollars (Some tk.BareHere) due p b k h i = begin_stands script (previous.Here start.place p) due p b k h i
ended_stands script start dollars (Some tk.Dollar) due p b k h i =
    emit_stands script (p.byte + 1) _ (spans.after_dollars (dollars ++ spans.token tk.Dollar start.place p ∷ []) due p b k) (dollars_stand script (dollars ++ spans.token tk.Dollar start.place p ∷ []) due p b k h i)
ended_stands script start dollars (Some tk.DollarCount) due p b k h i =
    emit_stands script (p.byte + 1) _ (spans.after_dollars (spans.token tk.DollarCount start.place p ∷ []) due p b k) (dollars_stand script (spans.token tk.DollarCount start.place p ∷ []) due p b k h i)
ended_stands script start dollars (Some tk.DollarFlat) due p b k h i =
    emit_stands script (p.byte + 1) _ (spans.after_dollars (spans.token tk.DollarFlat start.place p ∷ []) due p b k) (dollars_stand script (spans.token tk.DollarFlat start.place p ∷ []) due p b k h i)
ended_stands script start dollars (Some kind) due p b k h i =
    emit_stands script (p.byte + 1) _ (spans.begin (t.after_token start.previous (spans.shape (spans.meaning start.previous kind))) due p b k)
    (begin_stands script (t.after_token start.previous (spans.shape (spans.meaning start.previous kind))) due p b k h i)

operator_stands : (script : List ℕ) (start : TokenStart) (op : Op) (dollars : List Token) (o : Option Op) (due : List PendingHereDoc) (p : Place) (b : ℕ) (k : ByteClass) → StandsAt script p.byte b → IsThere k b →
    start.place.byte ≤ p.byte → t.awaits_mark start.previous ≡ false → StandsAfter script (p.byte + 1) (spans.in_operator start op dollars o due p b k)
operator_stands script start op dollars (Some op') due p b k h i g a = (omega (arith, g), a)
operator_stands script start op dollars None due p b k h i g a = ended_stands script start dollars (op_kind op) due p b k h i

name_stands : (script : List ℕ) (q : Place) (due : List PendingHereDoc) (p : Place) (b : ℕ) (k : ByteClass) (v : Bool) → StandsAt script p.byte b → IsThere k b → q.byte ≤ p.byte →
    StandsAfter script (p.byte + 1) (cond v (spans.goes [] (state.Name q) due) (spans.emit (spans.token tk.Name q p ∷ []) (spans.begin previous.Name due p b k)))
name_stands script q due p b k true h i g = omega (arith, g)
name_stands script q due p b k false h i g = emit_stands script (p.byte + 1) (spans.token tk.Name q p ∷ []) (spans.begin previous.Name due p b k) (begin_stands script previous.Name due p b k h i)

body_line_stands : (script : List ℕ) (body line : ℕ) (d : PendingHereDoc) (due : List PendingHereDoc) (p : Place) (v : Bool) → body ≤ line → line ≤ p.byte →
    StandsAfter script (p.byte + 1) (spans.end_line v body line d due p)
body_line_stands script body line d due p true f g = line_stands script (p.byte + 1) [] (record { start = body; stop = line } ∷ []) due
body_line_stands script body line d due p false f g = (omega (arith, f, g), omega arith)

step_stands : (script : List ℕ) (s : LexerState) (dollars : List Token) (due : List PendingHereDoc) (p : Place) (b : ℕ) (k : ByteClass) → StandsAt script p.byte b → IsThere k b → Stands script p.byte s →
    StandsAfter script (p.byte + 1) (spans.step script s dollars due p b k)
step_stands script (state.Between prev) dollars due p b k h i g = begin_stands script prev due p b k h i
step_stands script state.Comment dollars due p b LineEnd h i g = begin_stands script previous.Apart due p b LineEnd h i
step_stands script state.Comment dollars due p b k h i g = tt
step_stands script (state.Backslash start) dollars due p b LineEnd h i g = tt
step_stands script (state.Backslash start) dollars due p b k h i g = in_word_stands script start due p b k h i g.0
step_stands script (state.WordBackslash start q) dollars due p b LineEnd h i g = tt
step_stands script (state.WordBackslash start q) dollars due p b k h i g = in_word_stands script start due p b k h i (omega (arith, g.0, g.1))
step_stands script (state.Word start) dollars due p b k h i g = in_word_stands script start due p b k h i g
step_stands script (state.Name q) dollars due p b k h i g = name_stands script q due p b k (t.is_name_char b) h i g
step_stands script (state.Quoted start) dollars due p b Quote h i g = omega (arith, g)
step_stands script (state.Quoted start) dollars due p b k h i g = let w : start.place.byte ≤ p.byte + 1 = omega (arith, g) in w
step_stands script (state.Closed start) dollars due p b Quote h i g = omega (arith, g)
step_stands script (state.Closed start) dollars due p b k h i g = word_stands script true start due p b k h i
step_stands script (state.Operator start op) dollars due p b k h i g = operator_stands script start op dollars (next_op op b) due p b k h i g.0 g.1
step_stands script (state.Body body line) dollars [] p b k h i g = begin_stands script previous.Apart [] p b k h i
step_stands script (state.Body body line) dollars (d ∷ due) p b LineEnd h i g =
    body_line_stands script body line d due p (bytes_eq (slice_range script line p.byte) d.mark) g.0 g.1
step_stands script (state.Body body line) dollars (d ∷ due) p b k h i g = (g.0, omega (arith, g.1))

pub law : StandsLaw
law script s dollars due p b h g = step_stands script s dollars due p b (spans.byte_class b) h (there b (spans.byte_class b) (class_is b).class) g
