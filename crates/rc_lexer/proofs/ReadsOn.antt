-- A reading reads on.
use Rattle.std.proofs.Common.{◌≡◌, ℕ, suc, ◌+◌, ◌-◌, ◌<◌, ◌≤◌, ◌==◌, Bool, true, false, cond, List, [], ◌∷◌, ◌++◌, length, map, take, drop, get_or, drop-cons, length-append, add-one, refl, sym, ap, subst, ◌∙◌, arith, append_assoc}
use Rattle.std.specs.Prelude.{Option, Some, None, is_some, Result, Ok, Err, slice_range}
use Rattle.std.proofs.Math.Seq.{take-add}
use Rattle.std.proofs.lemmas.List.{map-append, drop-drop, drop-append-le}
use Rattle.rc_model.specs.Syntax.Tokens as t
use Rattle.rc_model.specs.Mirrors.Reading as r
use Rattle.rc_model.specs.Mirrors.Reading.{follow}
use Rattle.law_syntax.proofs.Steps.{join_nil, join_join}
use Rattle.law_syntax.specs.ByteReading as bytes
use Rattle.law_syntax.specs.ByteReading.{after_byte}
use Rattle.rc_lexer.specs.Views.{slice_at, token_of, tokens_of}
use Rattle.rc_lexer.specs.Spans as spans
use Rattle.rc_lexer.specs.Spans.{AfterByte, byte_class}
use Rattle.rc_lexer.specs.SpanLaws.{state_of, due_of, Stands, StandsAt, StandsAfter, seen}
use Rattle.rc_lexer.specs.Answers.{ScriptError}
use Rattle.rc_lexer.specs.Machine.{pending_of, pending_in, dollars_in, appended, Takes}
use Rattle.rc_lexer.specs.Reads.{answers, whole, HasRead, IsReading, ReadsOn}
use Rattle.rc_lexer.proofs.SpansRead.{law}
use Rattle.rc_lexer.proofs.Standing.{law as standing}
use Rattle.rc_lexer.proofs.More.{step_more, stands_more}
use Rattle.rc_model.specs.declared.syntax.Place.{Place}
use Rattle.rc_model.specs.declared.fault.SyntaxFault.{SyntaxFault}
use Rattle.rc_model.specs.declared.fault.InputError.TheVariants.{Fault, NoMemory}
use Rattle.rc_lexer.specs.declared.Span.{Span}
use Rattle.rc_lexer.specs.declared.Token.{Token}
use Rattle.rc_model.specs.declared.syntax.Previous.TheVariants as previous
use Rattle.rc_lexer.specs.declared.lexer_state.LexerState.{LexerState}
use Rattle.rc_lexer.specs.declared.lexer_state.LexerState.TheVariants as state
use Rattle.rc_lexer.specs.declared.lexer_state.Reading.{Reading}
use Rattle.rc_lexer.specs.declared.byte_classes.ByteClass.{ByteClass}

pub stands_at : (script rest : List ℕ) (at b : ℕ) → drop at script ≡ b ∷ rest → StandsAt script at b
stands_at script rest at b e a h =
    ap (λ n. take n (drop a script)) (omega (arith, h))
    ∙ take-add (at - a) 1 (drop a script)
    ∙ ap (λ z. slice_range script a at ++ take 1 z) (drop-drop (at - a) a script ∙ ap (λ n. drop n script) (omega (arith, h)) ∙ e)

join_seen : (script : List ℕ) (end : ℕ) (ts : List Token) (bodies : List Span) (x : AfterByte) (go : r.LexerState → List t.PendingHereDoc → t.Outcome) →
    t.join (tokens_of script ts) (map (slice_at script) bodies) (follow (seen script end x) go) ≡ follow (seen script end (appended ts bodies x)) go
join_seen script end ts bodies (Ok x) go =
    let o = go (state_of script end x.3 x.4 x.2) (due_of x.4 x.2) in
    sym (join_join (tokens_of script ts) (tokens_of script x.0) (map (slice_at script) bodies) (map (slice_at script) x.1) o)
    ∙ ap (λ z. t.join z (map (slice_at script) bodies ++ map (slice_at script) x.1) o) (sym (map-append (token_of script) ts x.0))
    ∙ ap (λ z. t.join (tokens_of script (ts ++ x.0)) z o) (sym (map-append (slice_at script) bodies x.1))
join_seen script end ts bodies (Err f) go = refl

-- what a reading answers, by its step at the next byte
pub by_step : (text more rest : List ℕ) (old : Reading) (s : LexerState) (p : Place) (b : ℕ) → p.byte ≤ length text → drop p.byte (text ++ more) ≡ b ∷ rest → Stands text p.byte s →
    answers (text ++ more) old s p
    ≡ follow (seen (text ++ more) (p.byte + 1) (appended old.tokens.items old.bodies.items (spans.step text s (dollars_in s old) (pending_in old) p b (byte_class b))))
    (λ s' due'. bytes.run s' due' (after_byte p b) rest)
by_step text more rest old s p b h e g =
    let script = text ++ more in
    let go : r.LexerState → List t.PendingHereDoc → t.Outcome = λ s' due'. bytes.run s' due' (after_byte p b) rest in
    let put : t.Outcome → t.Outcome = λ o. t.join (tokens_of script old.tokens.items) (map (slice_at script) old.bodies.items) o in
    ap (λ z. put (bytes.run (state_of script p.byte (dollars_in s old) (pending_in old) s) (due_of (pending_in old) s) p z)) e
    ∙ ap (λ z. put (follow z go)) (sym (law script s (dollars_in s old) (pending_in old) p b (stands_at script rest p.byte b e) (stands_more text more p.byte s h g)))
    ∙ ap (λ z. put (follow (seen script (p.byte + 1) z) go)) (step_more text more s (dollars_in s old) (pending_in old) p b (byte_class b) h g)
    ∙ join_seen script (p.byte + 1) old.tokens.items old.bodies.items (spans.step text s (dollars_in s old) (pending_in old) p b (byte_class b)) go

pub step_answers : (text more rest : List ℕ) (old new : Reading) (s s' : LexerState) (p : Place) (b : ℕ) → p.byte ≤ length text → drop p.byte (text ++ more) ≡ b ∷ rest →
    drop (p.byte + 1) (text ++ more) ≡ rest → Stands text p.byte s →
    Takes old new (Ok s') (spans.step text s (dollars_in s old) (pending_in old) p b (byte_class b)) →
    answers (text ++ more) old s p ≡ answers (text ++ more) new s' (after_byte p b)
step_answers text more rest old new s s' p b h e f g d =
    let script = text ++ more in
    let go : r.LexerState → List t.PendingHereDoc → t.Outcome = λ s' due'. bytes.run s' due' (after_byte p b) rest in
    by_step text more rest old s p b h e g
    ∙ ap (λ z. follow (seen script (p.byte + 1) z) go) d
    ∙ ap (λ z. t.join (tokens_of script new.tokens.items) (map (slice_at script) new.bodies.items)
    (bytes.run (state_of script (p.byte + 1) (dollars_in s' new) (pending_in new) s') (due_of (pending_in new) s') (after_byte p b) z)) (sym f)

-- and a fault is that of each text that begins so
pub fault_answers : (text more rest : List ℕ) (old new : Reading) (s : LexerState) (f : SyntaxFault) (p : Place) (b : ℕ) → p.byte ≤ length text → drop p.byte (text ++ more) ≡ b ∷ rest → Stands text p.byte s →
    Takes old new (Err (Fault f)) (spans.step text s (dollars_in s old) (pending_in old) p b (byte_class b)) →
    answers (text ++ more) old s p ≡ Err f
fault_answers text more rest old new s f p b h e g d =
    by_step text more rest old s p b h e g
    ∙ ap (λ z. follow (seen (text ++ more) (p.byte + 1) (appended old.tokens.items old.bodies.items z)) (λ s' due'. bytes.run s' due' (after_byte p b) rest)) d

pub rest_at : (text more : List ℕ) (at d : ℕ) → at < length text → drop at (text ++ more) ≡ get_or text at d ∷ drop (at + 1) (text ++ more)
rest_at text more at d h =
    drop-append-le at text more (omega (arith, h)) ∙ ap (λ z. z ++ more) (drop-cons text at d h)
    ∙ ap (λ n. get_or text at d ∷ drop n text ++ more) (sym (add-one at))
    ∙ ap (λ z. get_or text at d ∷ z) (sym (drop-append-le (at + 1) text more (omega (arith, h))))

-- one more byte is read
pub reads_on : (text : List ℕ) (old new : Reading) (s s' : LexerState) (p : Place) (b d : ℕ) → p.byte < length text → b ≡ get_or text p.byte d →
    HasRead text old s p →
    Takes old new (Ok s') (spans.step text s (dollars_in s old) (pending_in old) p b (byte_class b)) →
    HasRead text new s' (after_byte p b)
reads_on text old new s s' p b d h e has k = record {
  so_far = λ more.
      sym (step_answers text more (drop (p.byte + 1) (text ++ more)) old new s s' p b (omega (arith, h))
      (rest_at text more p.byte d h ∙ ap (λ z. z ∷ drop (p.byte + 1) (text ++ more)) (sym e)) refl has.stands k) ∙ has.so_far more;
  within = omega (arith, h);
  stands = stood s' (spans.step text s (dollars_in s old) (pending_in old) p b (byte_class b)) k
      (standing text s (dollars_in s old) (pending_in old) p b
      (stands_at text (drop (p.byte + 1) text) p.byte b (drop-cons text p.byte d h ∙ ap (λ n. get_or text p.byte d ∷ drop n text) (sym (add-one p.byte)) ∙ ap (λ z. z ∷ drop (p.byte + 1) text) (sym e))) has.stands);
  lines = by_line (b == 10) has.lines;
}
  where
    by_line : (v : Bool) → p.line ≤ p.byte + 1 → cond v (suc p.line) p.line ≤ (p.byte + 1) + 1
    by_line true g = omega (arith, g)
    by_line false g = omega (arith, g)

    state_or : LexerState → Result (List Token × List Span × LexerState × List Token × List t.PendingHereDoc) SyntaxFault → LexerState
    state_or s0 (Ok x) = x.2
    state_or s0 (Err f) = s0

    stood : (s1 : LexerState) (x : AfterByte) → Takes old new (Ok s1) x → StandsAfter text (p.byte + 1) x → Stands text (p.byte + 1) s1
    stood s1 (Ok x) g st = subst (λ z. Stands text (p.byte + 1) z) (ap (state_or s1) g) st
    stood s1 (Err f) g st = absurd cc

-- or a fault is found
pub fault_on : (text : List ℕ) (old new : Reading) (s : LexerState) (f : SyntaxFault) (p : Place) (b d : ℕ) → p.byte < length text → b ≡ get_or text p.byte d →
    HasRead text old s p →
    Takes old new (Err (Fault f)) (spans.step text s (dollars_in s old) (pending_in old) p b (byte_class b)) →
    (more : List ℕ) → whole (text ++ more) ≡ Err f
fault_on text old new s f p b d h e has k more =
    sym (has.so_far more)
    ∙ fault_answers text more (drop (p.byte + 1) (text ++ more)) old new s f p b (omega (arith, h))
    (rest_at text more p.byte d h ∙ ap (λ z. z ∷ drop (p.byte + 1) (text ++ more)) (sym e)) has.stands k

-- a text that grows
pub has_more : (text piece : List ℕ) (reading : Reading) (s : LexerState) (p : Place) → HasRead text reading s p → HasRead (text ++ piece) reading s p
has_more text piece reading s p has = record {
  so_far = λ more. ap (λ z. answers z reading s p) (append_assoc text piece more) ∙ has.so_far (piece ++ more) ∙ ap whole (sym (append_assoc text piece more));
  within = omega (arith, has.within, length-append text piece);
  stands = stands_more text piece p.byte s has.within has.stands;
  lines = has.lines;
}

pub fault_more : (text piece : List ℕ) (f : SyntaxFault) → ((more : List ℕ) → whole (text ++ more) ≡ Err f) → (more : List ℕ) → whole ((text ++ piece) ++ more) ≡ Err f
fault_more text piece f h more = ap whole (append_assoc text piece more) ∙ h (piece ++ more)

-- nothing is read
pub nothing_read : (text : List ℕ) (reading : Reading) → reading.tokens.items ≡ [] → reading.bodies.items ≡ [] → reading.pending.items ≡ [] →
    HasRead text reading (state.Between previous.Apart) t.first_place
nothing_read text reading e f g = record {
  so_far = λ more.
      ap (λ z. t.join (tokens_of (text ++ more) z) (map (slice_at (text ++ more)) reading.bodies.items) (bytes.run (r.Between previous.Apart) (pending_in reading) t.first_place (text ++ more))) e
      ∙ ap (λ z. t.join [] (map (slice_at (text ++ more)) z) (bytes.run (r.Between previous.Apart) (pending_in reading) t.first_place (text ++ more))) f
      ∙ ap (λ z. t.join [] [] (bytes.run (r.Between previous.Apart) (map pending_of z) t.first_place (text ++ more))) g
      ∙ join_nil (whole (text ++ more));
  within = omega arith;
  stands = tt;
  lines = omega arith;
}

pub still_reads : (text piece : List ℕ) (reading : Reading) (s : LexerState) (p : Place) (o : Option SyntaxFault) (v : Bool) → v ≡ is_some o → v ≡ false → IsReading text reading s p o →
    HasRead (text ++ piece) reading s p
still_reads text piece reading s p None v e f h = has_more text piece reading s p h
still_reads text piece reading s p (Some g) v e f h = absurd cc

-- what stands at the error
pub err_on : (text : List ℕ) (old new : Reading) (s : LexerState) (p : Place) (b d : ℕ) (r : Result (LexerState × Place) ScriptError) (e e' : ScriptError) → p.byte < length text → b ≡ get_or text p.byte d →
    HasRead text old s p → r ≡ Err e' → e' ≡ e →
    Takes old new (Err e) (spans.step text s (dollars_in s old) (pending_in old) p b (byte_class b)) → ReadsOn text new r
err_on text old new s p b d r e e' h i has f g k = subst (λ z. ReadsOn text new z) (sym (f ∙ ap (λ z. Err z) g)) (by e k)
  where
    by : (x : ScriptError) → Takes old new (Err x) (spans.step text s (dollars_in s old) (pending_in old) p b (byte_class b)) → ReadsOn text new (Err x)
    by (Fault x) w = fault_on text old new s x p b d h i has w
    by NoMemory w = tt

-- by the class of the byte
pub class_reads_on : (text : List ℕ) (old new : Reading) (s s' : LexerState) (p q : Place) (b d : ℕ) (k : ByteClass) → p.byte < length text → b ≡ get_or text p.byte d → k ≡ byte_class b → q ≡ after_byte p b →
    HasRead text old s p →
    Takes old new (Ok s') (spans.step text s (dollars_in s old) (pending_in old) p b k) →
    HasRead text new s' q
class_reads_on text old new s s' p q b d k h e f g has t' =
    subst (λ z. HasRead text new s' z) (sym g)
    (reads_on text old new s s' p b d h e has (subst (λ z. Takes old new (Ok s') (spans.step text s (dollars_in s old) (pending_in old) p b z)) f t'))

pub class_err_on : (text : List ℕ) (old new : Reading) (s : LexerState) (p : Place) (b d : ℕ) (k : ByteClass) (r : Result (LexerState × Place) ScriptError) (e e' : ScriptError) → p.byte < length text → b ≡ get_or text p.byte d → k ≡ byte_class b →
    HasRead text old s p → r ≡ Err e' → e' ≡ e →
    Takes old new (Err e) (spans.step text s (dollars_in s old) (pending_in old) p b k) → ReadsOn text new r
class_err_on text old new s p b d k r e e' h i j has f g t' =
    err_on text old new s p b d r e e' h i has f g (subst (λ z. Takes old new (Err e) (spans.step text s (dollars_in s old) (pending_in old) p b z)) j t')
