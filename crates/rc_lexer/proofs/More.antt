-- What follows a text changes none of the steps at it.
use Rattle.std.proofs.Common.{◌≡◌, ℕ, ◌-◌, ◌≤◌, Bool, true, false, List, [], ◌∷◌, ◌++◌, length, take, drop, refl, sym, ap, ◌∙◌, arith}
use Rattle.std.specs.Prelude.{slice_range}
use Rattle.std.specs.Str.{bytes_eq}
use Rattle.std.proofs.lemmas.List.{take-append-le, drop-append-le, length-drop}
use Rattle.rc_model.specs.Syntax.Tokens.{PendingHereDoc}
use Rattle.rc_lexer.specs.Spans as spans
use Rattle.rc_lexer.specs.SpanLaws.{Stands}
use Rattle.rc_model.specs.declared.syntax.Place.{Place}
use Rattle.rc_model.specs.declared.syntax.Previous.{Previous}
use Rattle.rc_model.specs.declared.syntax.Previous.TheVariants as previous
use Rattle.rc_lexer.specs.declared.Token.{Token}
use Rattle.rc_lexer.specs.declared.lexer_state.LexerState.{LexerState}
use Rattle.rc_lexer.specs.declared.lexer_state.LexerState.TheVariants as state
use Rattle.rc_lexer.specs.declared.lexer_state.TokenStart.{TokenStart}
use Rattle.rc_lexer.specs.declared.byte_classes.ByteClass.{ByteClass}
use Rattle.rc_lexer.specs.declared.byte_classes.ByteClass.TheVariants.{LineEnd, Quote, Backslash, Ordinary}

pub slice_more : (xs ys : List ℕ) (a b : ℕ) → a ≤ b → b ≤ length xs → slice_range (xs ++ ys) a b ≡ slice_range xs a b
slice_more xs ys a b h k =
    ap (take (b - a)) (drop-append-le a xs ys (omega (arith, h, k))) ∙ take-append-le (b - a) (drop a xs) ys (omega (arith, h, k, length-drop a xs))

pub stands_more : (xs ys : List ℕ) (end : ℕ) (s : LexerState) → end ≤ length xs → Stands xs end s → Stands (xs ++ ys) end s
stands_more xs ys end (state.Between prev) h g = tt
stands_more xs ys end state.Comment h g = tt
stands_more xs ys end (state.Backslash start) h g = (g.0, slice_more xs ys start.place.byte end g.0 h ∙ g.1)
stands_more xs ys end (state.WordBackslash start q) h g = (
  g.0,
  g.1,
  slice_more xs ys start.place.byte end (omega (arith, g.0, g.1)) h ∙ g.2
      ∙ ap (λ z. z ++ 92 ∷ []) (sym (slice_more xs ys start.place.byte q.byte g.0 (omega (arith, g.1, h)))),
)
stands_more xs ys end (state.Word start) h g = g
stands_more xs ys end (state.Name q) h g = g
stands_more xs ys end (state.Quoted start) h g = g
stands_more xs ys end (state.Closed start) h g = g
stands_more xs ys end (state.Operator start op) h g = g
stands_more xs ys end (state.Body body line) h g = g

due_more : (quoted : Bool) (xs ys : List ℕ) (prev : Previous) (p q : Place) (due : List PendingHereDoc) → p.byte ≤ q.byte → q.byte ≤ length xs →
    spans.word_due quoted (xs ++ ys) prev p q due ≡ spans.word_due quoted xs prev p q due
due_more quoted xs ys (previous.Here u v) p q due h k =
    ap (λ z. due ++ record { mark = spans.mark_of quoted z; line = u.line } ∷ []) (slice_more xs ys p.byte q.byte h k)
due_more quoted xs ys prev p q due h k = refl

word_more : (quoted : Bool) (xs ys : List ℕ) (start : TokenStart) (due : List PendingHereDoc) (p : Place) (b : ℕ) (k : ByteClass) → start.place.byte ≤ p.byte → p.byte ≤ length xs →
    spans.ends_word quoted (xs ++ ys) start due p b k ≡ spans.ends_word quoted xs start due p b k
word_more quoted xs ys start due p b k h l =
    ap (λ z. spans.emit (spans.word_tokens quoted start.previous start.place p) (spans.begin (spans.word_after quoted start.previous) z p b k))
    (due_more quoted xs ys start.previous start.place p due h l)

in_word_more : (xs ys : List ℕ) (start : TokenStart) (due : List PendingHereDoc) (p : Place) (b : ℕ) (k : ByteClass) → start.place.byte ≤ p.byte → p.byte ≤ length xs →
    spans.in_word (xs ++ ys) start due p b k ≡ spans.in_word xs start due p b k
in_word_more xs ys start due p b Ordinary h l = refl
in_word_more xs ys start due p b Backslash h l = refl
in_word_more xs ys start due p b k h l = word_more false xs ys start due p b k h l

pub step_more : (xs ys : List ℕ) (s : LexerState) (dollars : List Token) (due : List PendingHereDoc) (p : Place) (b : ℕ) (k : ByteClass) → p.byte ≤ length xs → Stands xs p.byte s →
    spans.step (xs ++ ys) s dollars due p b k ≡ spans.step xs s dollars due p b k
step_more xs ys (state.Between prev) dollars due p b k h g = refl
step_more xs ys state.Comment dollars due p b k h g = refl
step_more xs ys (state.Backslash start) dollars due p b LineEnd h g = refl
step_more xs ys (state.Backslash start) dollars due p b k h g = in_word_more xs ys start due p b k g.0 h
step_more xs ys (state.WordBackslash start q) dollars due p b LineEnd h g =
    ap (λ z. spans.goes (spans.word_tokens false start.previous start.place q) (state.Between previous.Apart) z)
    (due_more false xs ys start.previous start.place q due g.0 (omega (arith, g.1, h)))
step_more xs ys (state.WordBackslash start q) dollars due p b k h g = in_word_more xs ys start due p b k (omega (arith, g.0, g.1)) h
step_more xs ys (state.Word start) dollars due p b k h g = in_word_more xs ys start due p b k g h
step_more xs ys (state.Name q) dollars due p b k h g = refl
step_more xs ys (state.Quoted start) dollars due p b Quote h g = refl
step_more xs ys (state.Quoted start) dollars due p b k h g = refl
step_more xs ys (state.Closed start) dollars due p b Quote h g = refl
step_more xs ys (state.Closed start) dollars due p b k h g = word_more true xs ys start due p b k g h
step_more xs ys (state.Operator start op) dollars due p b k h g = refl
step_more xs ys (state.Body body line) dollars [] p b k h g = refl
step_more xs ys (state.Body body line) dollars (d ∷ due) p b LineEnd h g =
    ap (λ z. spans.end_line (bytes_eq z d.mark) body line d due p) (slice_more xs ys line p.byte g.1 h)
step_more xs ys (state.Body body line) dollars (d ∷ due) p b k h g = refl
