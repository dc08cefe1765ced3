-- Blanks and words are read on, many bytes at once.
use Rattle.std.proofs.Common.{◌≡◌, ◌≢◌, ℕ, ◌+◌, ◌<◌, ◌==◌, ◌||◌, Bool, true, false, cond, not, List, [], ◌∷◌, ◌++◌, length, map, drop, get_or, refl, sym, ap, subst, ◌∙◌, append_assoc}
use Rattle.std.specs.Prelude.{Some, None, Ok, Err}
use Rattle.std.proofs.lemmas.List.{append-nil}
use Rattle.rc_model.specs.Syntax.Tokens as t
use Rattle.rc_model.specs.Mirrors.Reading.{follow, without_here}
use Rattle.law_syntax.specs.ByteReading as bytes
use Rattle.law_syntax.specs.ByteReading.{after_byte}
use Rattle.rc_lexer.specs.Spans as spans
use Rattle.rc_lexer.specs.Spans.{EndsQuoted, EndsWord, IsWhole, in_quotes, AfterByte, byte_class}
use Rattle.rc_lexer.specs.Trie.{first_op, next_op, op_kind}
use Rattle.rc_lexer.specs.SpanLaws.{seen, Stands}
use Rattle.rc_lexer.specs.Machine.{pending_of, pending_in, dollars_in, appended, Takes, Adds, AddsWord}
use Rattle.rc_lexer.specs.Reads.{answers, HasRead}
use Rattle.rc_lexer.proofs.ReadsOn.{class_reads_on, by_step, rest_at}
use Rattle.rc_lexer.proofs.Does.{appended_emit}
use Rattle.rc_model.specs.declared.syntax.Place.{Place}
use Rattle.rc_model.specs.declared.syntax.Previous.{Previous}
use Rattle.rc_model.specs.declared.syntax.Previous.TheVariants as previous
use Rattle.rc_lexer.specs.declared.Token.{Token}
use Rattle.rc_lexer.specs.declared.TokenKind.{TokenKind}
use Rattle.rc_lexer.specs.declared.TokenKind.TheVariants as tk
use Rattle.rc_lexer.specs.declared.operators.Op.{Op}
use Rattle.rc_lexer.specs.declared.operators.Op.TheVariants.{Dollar0}
use Rattle.rc_lexer.specs.declared.lexer_state.LexerState.{LexerState}
use Rattle.rc_lexer.specs.declared.lexer_state.LexerState.TheVariants as state
use Rattle.rc_lexer.specs.declared.lexer_state.TokenStart.{TokenStart}
use Rattle.rc_lexer.specs.declared.lexer_state.Reading.{Reading}
use Rattle.rc_lexer.specs.declared.byte_classes.ByteClass.{ByteClass}
use Rattle.rc_lexer.specs.declared.byte_classes.ByteClass.TheVariants as k

-- a step that changes the state alone
goes_takes : (reading : Reading) (s : LexerState) → dollars_in s reading ≡ [] → Takes reading reading (Ok s) (spans.goes [] s (pending_in reading))
goes_takes reading s e =
    ap (λ z. Ok (z, reading.bodies.items ++ [], s, [], pending_in reading)) (append-nil reading.tokens.items)
    ∙ ap (λ z. Ok (reading.tokens.items, z, s, [], pending_in reading)) (append-nil reading.bodies.items)
    ∙ ap (λ z. Ok (reading.tokens.items, reading.bodies.items, s, z, pending_in reading)) (sym e)

pub blank_on : (text : List ℕ) (reading : Reading) (prev after : Previous) (p q : Place) (b : ℕ) (c : ByteClass) → p.byte < length text → b ≡ get_or text p.byte 0 → c ≡ byte_class b → c ≡ k.Blank →
    after ≡ t.after_blank prev → q ≡ after_byte p b → HasRead text reading (state.Between prev) p → HasRead text reading (state.Between after) q
blank_on text reading prev after p q b c h e f g i j has =
    class_reads_on text reading reading (state.Between prev) (state.Between after) p q b 0 k.Blank h e (sym g ∙ f) j has
    (subst (λ z. Takes reading reading (Ok (state.Between z)) (spans.begin prev (pending_in reading) p b k.Blank)) (sym i) (goes_takes reading (state.Between (t.after_blank prev)) refl))

pub alone_on : (text : List ℕ) (old new : Reading) (prev after : Previous) (p q : Place) (b : ℕ) (c : ByteClass) → p.byte < length text → b ≡ get_or text p.byte 0 → c ≡ byte_class b → c ≡ k.Alone →
    q ≡ after_byte p b → HasRead text old (state.Between prev) p →
    Takes old new (Ok (state.Between after)) (spans.begin prev (pending_in old) p b k.Alone) → HasRead text new (state.Between after) q
alone_on text old new prev after p q b c h e f g j has d =
    class_reads_on text old new (state.Between prev) (state.Between after) p q b 0 k.Alone h e (sym g ∙ f) j has d

pub line_end_on : (text : List ℕ) (old new : Reading) (prev : Previous) (s : LexerState) (p q : Place) (b : ℕ) (c : ByteClass) → p.byte < length text → b ≡ get_or text p.byte 0 → c ≡ byte_class b → c ≡ k.LineEnd →
    q ≡ after_byte p b → HasRead text old (state.Between prev) p →
    Takes old new (Ok s) (spans.begin prev (pending_in old) p b k.LineEnd) → HasRead text new s q
line_end_on text old new prev s p q b c h e f g j has d =
    class_reads_on text old new (state.Between prev) s p q b 0 k.LineEnd h e (sym g ∙ f) j has d

pub word_begins_on : (text : List ℕ) (reading : Reading) (prev : Previous) (p q : Place) (b : ℕ) (c : ByteClass) (v : Bool) → p.byte < length text → b ≡ get_or text p.byte 0 → c ≡ byte_class b → c ≡ k.Ordinary →
    v ≡ t.begins_name prev b → v ≡ false → q ≡ after_byte p b → HasRead text reading (state.Between prev) p →
    HasRead text reading (state.Word (record { previous = prev; place = p })) q
word_begins_on text reading prev p q b c v h e f g i i' j has =
    let start : TokenStart = record { previous = prev; place = p } in
    class_reads_on text reading reading (state.Between prev) (state.Word start) p q b 0 k.Ordinary h e (sym g ∙ f) j has
    (subst (λ z. Takes reading reading (Ok (state.Word start)) (spans.goes [] (cond z (state.Name p) (state.Word start)) (pending_in reading))) (sym i' ∙ i)
    (goes_takes reading (state.Word start) refl))

pub word_goes_on : (text : List ℕ) (reading : Reading) (start : TokenStart) (p q : Place) (b : ℕ) (c : ByteClass) → p.byte < length text → b ≡ get_or text p.byte 0 → c ≡ byte_class b → c ≡ k.Ordinary →
    q ≡ after_byte p b → HasRead text reading (state.Word start) p → HasRead text reading (state.Word start) q
word_goes_on text reading start p q b c h e f g j has =
    class_reads_on text reading reading (state.Word start) (state.Word start) p q b 0 k.Ordinary h e (sym g ∙ f) j has (goes_takes reading (state.Word start) refl)

in_word_ends : (text : List ℕ) (start : TokenStart) (due : List t.PendingHereDoc) (p : Place) (b : ℕ) (c : ByteClass) → EndsWord c → spans.in_word text start due p b c ≡ spans.ends_word false text start due p b c
in_word_ends text start due p b k.Ordinary h = absurd h
in_word_ends text start due p b k.Backslash h = absurd h
in_word_ends text start due p b c h = refl

-- a reading goes on from one state as another one does from another
pub goes_on_as : (text : List ℕ) (old new : Reading) (s s' : LexerState) (p : Place) (b : ℕ) → p.byte < length text → b ≡ get_or text p.byte 0 →
    appended old.tokens.items old.bodies.items (spans.step text s (dollars_in s old) (pending_in old) p b (byte_class b))
    ≡ appended new.tokens.items new.bodies.items (spans.step text s' (dollars_in s' new) (pending_in new) p b (byte_class b)) →
    Stands text p.byte s' → HasRead text old s p → HasRead text new s' p
goes_on_as text old new s s' p b h e steps stands has = record {
  so_far = λ more. sym (same more) ∙ has.so_far more;
  within = has.within;
  stands = stands;
  lines = has.lines;
}
  where
    same : (more : List ℕ) → answers (text ++ more) old s p ≡ answers (text ++ more) new s' p
    same more =
        let rest = drop (p.byte + 1) (text ++ more) in
        let at : drop p.byte (text ++ more) ≡ b ∷ rest = rest_at text more p.byte 0 h ∙ ap (λ z. z ∷ rest) (sym e) in
        by_step text more rest old s p b has.within at has.stands
        ∙ ap (λ z. follow (seen (text ++ more) (p.byte + 1) z) (λ s1 d1. bytes.run s1 d1 (after_byte p b) rest)) steps
        ∙ sym (by_step text more rest new s' p b has.within at stands)

pub ends_by : (c c' : ByteClass) → c ≡ c' → c ≢ k.Ordinary → c ≢ k.Backslash → EndsWord c'
ends_by c c' e n m = subst EndsWord e (by c n m)
  where
    by : (d : ByteClass) → d ≢ k.Ordinary → d ≢ k.Backslash → EndsWord d
    by k.Ordinary n m = absurd (n refl)
    by k.Backslash n m = absurd (m refl)
    by d n m = tt

pub word_ends_on : (text : List ℕ) (old new : Reading) (start : TokenStart) (after : Previous) (p : Place) (b : ℕ) → p.byte < length text → b ≡ get_or text p.byte 0 → EndsWord (byte_class b) →
    AddsWord false text start.previous after start.place p old new → HasRead text old (state.Word start) p → HasRead text new (state.Between after) p
word_ends_on text old new start after p b h e w a has =
    let due' = spans.word_due false text start.previous start.place p (pending_in old) in
    goes_on_as text old new (state.Word start) (state.Between after) p b h e
    (ap (appended old.tokens.items old.bodies.items) (in_word_ends text start (pending_in old) p b (byte_class b) w)
    ∙ appended_emit old.tokens.items (spans.word_tokens false start.previous start.place p) old.bodies.items (spans.begin (spans.word_after false start.previous) due' p b (byte_class b))
    ∙ ap (λ z. appended z old.bodies.items (spans.begin (spans.word_after false start.previous) due' p b (byte_class b))) (sym a.tokens)
    ∙ ap (λ z. appended new.tokens.items z (spans.begin (spans.word_after false start.previous) due' p b (byte_class b))) (sym a.bodies)
    ∙ ap (λ z. appended new.tokens.items new.bodies.items (spans.begin z due' p b (byte_class b))) (sym a.after_word)
    ∙ ap (λ z. appended new.tokens.items new.bodies.items (spans.begin after z p b (byte_class b))) (sym a.pending)) tt has

-- a name
pub name_begins_on : (text : List ℕ) (reading : Reading) (prev : Previous) (p q : Place) (b : ℕ) (c : ByteClass) (v : Bool) → p.byte < length text → b ≡ get_or text p.byte 0 → c ≡ byte_class b → c ≡ k.Ordinary →
    v ≡ t.begins_name prev b → v ≡ true → q ≡ after_byte p b → HasRead text reading (state.Between prev) p →
    HasRead text reading (state.Name p) q
name_begins_on text reading prev p q b c v h e f g i i' j has =
    class_reads_on text reading reading (state.Between prev) (state.Name p) p q b 0 k.Ordinary h e (sym g ∙ f) j has
    (subst (λ z. Takes reading reading (Ok (state.Name p)) (spans.goes [] (cond z (state.Name p) (state.Word (spans.starts prev p))) (pending_in reading))) (sym i' ∙ i)
    (goes_takes reading (state.Name p) refl))

pub name_goes_on : (text : List ℕ) (reading : Reading) (start p q : Place) (b : ℕ) (v : Bool) → p.byte < length text → b ≡ get_or text p.byte 0 → v ≡ t.is_name_char b → v ≡ true →
    q ≡ after_byte p b → HasRead text reading (state.Name start) p → HasRead text reading (state.Name start) q
name_goes_on text reading start p q b v h e f g j has =
    class_reads_on text reading reading (state.Name start) (state.Name start) p q b 0 (byte_class b) h e refl j has
    (subst (λ z. Takes reading reading (Ok (state.Name start)) (cond z (spans.goes [] (state.Name start) (pending_in reading))
    (spans.emit (spans.token tk.Name start p ∷ []) (spans.begin previous.Name (pending_in reading) p b (byte_class b))))) (sym g ∙ f)
    (goes_takes reading (state.Name start) refl))

-- tokens were added, and nothing else was changed that counts between tokens
record AddsTokens (ts : List Token) (old new : Reading) : Type 0 where
  tokens : new.tokens.items ≡ old.tokens.items ++ ts
  bodies : new.bodies.items ≡ old.bodies.items
  pending : new.pending.items ≡ old.pending.items

-- after these tokens
after_adding : (ts : List Token) (old new : Reading) (prev : Previous) (p : Place) (b : ℕ) (c : ByteClass) → AddsTokens ts old new →
    appended old.tokens.items old.bodies.items (spans.emit ts (spans.begin prev (pending_in old) p b c)) ≡ appended new.tokens.items new.bodies.items (spans.begin prev (pending_in new) p b c)
after_adding ts old new prev p b c a =
    appended_emit old.tokens.items ts old.bodies.items (spans.begin prev (pending_in old) p b c)
    ∙ ap (λ z. appended z old.bodies.items (spans.begin prev (pending_in old) p b c)) (sym a.tokens)
    ∙ ap (λ z. appended new.tokens.items z (spans.begin prev (pending_in old) p b c)) (sym a.bodies)
    ∙ ap (λ z. appended new.tokens.items new.bodies.items (spans.begin prev (map pending_of z) p b c)) (sym a.pending)

pub name_ends_on : (text : List ℕ) (old new : Reading) (start p : Place) (b : ℕ) → p.byte < length text → b ≡ get_or text p.byte 0 → t.is_name_char b ≡ false →
    new.tokens.items ≡ old.tokens.items ++ spans.token tk.Name start p ∷ [] → new.bodies.items ≡ old.bodies.items → new.pending.items ≡ old.pending.items →
    HasRead text old (state.Name start) p → HasRead text new (state.Between previous.Name) p
name_ends_on text old new start p b h e f x y z has =
    goes_on_as text old new (state.Name start) (state.Between previous.Name) p b h e
    (ap (λ v. appended old.tokens.items old.bodies.items (cond v (spans.goes [] (state.Name start) (pending_in old))
    (spans.emit (spans.token tk.Name start p ∷ []) (spans.begin previous.Name (pending_in old) p b (byte_class b))))) f
    ∙ after_adding (spans.token tk.Name start p ∷ []) old new previous.Name p b (byte_class b) (record { tokens = x; bodies = y; pending = z })) tt has

operator_takes : (prev : Previous) (start : TokenStart) (op : Op) (p : Place) (b : ℕ) (old new : Reading) → start ≡ spans.starts (without_here prev) p → op ≡ first_op b →
    new.tokens.items ≡ old.tokens.items ++ spans.bare_here prev → new.bodies.items ≡ old.bodies.items → new.pending.items ≡ old.pending.items → new.dollars.items ≡ [] →
    Takes old new (Ok (state.Operator start op)) (spans.begin prev (pending_in old) p b k.Begins)
operator_takes prev start op p b old new m n x y z w =
    ap (λ i. Ok (old.tokens.items ++ spans.bare_here prev, i, state.Operator (spans.starts (without_here prev) p) (first_op b), [], pending_in old)) (append-nil old.bodies.items ∙ sym y)
    ∙ ap (λ i. Ok (i, new.bodies.items, state.Operator (spans.starts (without_here prev) p) (first_op b), [], pending_in old)) (sym x)
    ∙ ap (λ i. Ok (new.tokens.items, new.bodies.items, state.Operator i (first_op b), [], pending_in old)) (sym m)
    ∙ ap (λ i. Ok (new.tokens.items, new.bodies.items, state.Operator start i, [], pending_in old)) (sym n)
    ∙ ap (λ i. Ok (new.tokens.items, new.bodies.items, state.Operator start op, i, pending_in old)) (sym w)
    ∙ ap (λ i. Ok (new.tokens.items, new.bodies.items, state.Operator start op, new.dollars.items, map pending_of i)) (sym z)

emit_emit : (ts us : List Token) (x : AfterByte) → spans.emit ts (spans.emit us x) ≡ spans.emit (ts ++ us) x
emit_emit ts us (Ok x) = ap (λ z. Ok (z, x.1, x.2, x.3, x.4)) (sym (append_assoc ts us x.0))
emit_emit ts us (Err f) = refl

-- an operator
pub operator_begins_on : (text : List ℕ) (old new : Reading) (prev : Previous) (start : TokenStart) (op : Op) (p q : Place) (b : ℕ) (c : ByteClass) → p.byte < length text → b ≡ get_or text p.byte 0 → c ≡ byte_class b → c ≡ k.Begins →
    q ≡ after_byte p b → start ≡ spans.starts (without_here prev) p → op ≡ first_op b →
    new.tokens.items ≡ old.tokens.items ++ spans.bare_here prev → new.bodies.items ≡ old.bodies.items → new.pending.items ≡ old.pending.items → new.dollars.items ≡ [] →
    HasRead text old (state.Between prev) p → HasRead text new (state.Operator start op) q
operator_begins_on text old new prev start op p q b c h e f g j m n x y z w has =
    class_reads_on text old new (state.Between prev) (state.Operator start op) p q b 0 k.Begins h e (sym g ∙ f) j has
    (operator_takes prev start op p b old new m n x y z w)

pub operator_goes_on : (text : List ℕ) (reading : Reading) (start : TokenStart) (op op' : Op) (p q : Place) (b : ℕ) → p.byte < length text → b ≡ get_or text p.byte 0 → next_op op b ≡ Some op' →
    q ≡ after_byte p b → HasRead text reading (state.Operator start op) p → HasRead text reading (state.Operator start op') q
operator_goes_on text reading start op op' p q b h e f j has =
    class_reads_on text reading reading (state.Operator start op) (state.Operator start op') p q b 0 (byte_class b) h e refl j has
    (subst (λ z. Takes reading reading (Ok (state.Operator start op')) (spans.in_operator start op reading.dollars.items z (pending_in reading) p b (byte_class b))) (sym f)
    (ap (λ z. Ok (z, reading.bodies.items ++ [], state.Operator start op', reading.dollars.items, pending_in reading)) (append-nil reading.tokens.items)
    ∙ ap (λ z. Ok (reading.tokens.items, z, state.Operator start op', reading.dollars.items, pending_in reading)) (append-nil reading.bodies.items)))

-- the byte after it ends it
ends_as : (text : List ℕ) (reading : Reading) (start : TokenStart) (op : Op) (kind : TokenKind) (p : Place) (b : ℕ) → next_op op b ≡ None → op_kind op ≡ Some kind →
    appended reading.tokens.items reading.bodies.items (spans.step text (state.Operator start op) (dollars_in (state.Operator start op) reading) (pending_in reading) p b (byte_class b))
    ≡ appended reading.tokens.items reading.bodies.items (spans.end_operator start reading.dollars.items (Some kind) (pending_in reading) p b (byte_class b))
ends_as text reading start op kind p b f g =
    ap (λ z. appended reading.tokens.items reading.bodies.items (spans.in_operator start op reading.dollars.items z (pending_in reading) p b (byte_class b))) f
    ∙ ap (λ z. appended reading.tokens.items reading.bodies.items (spans.end_operator start reading.dollars.items z (pending_in reading) p b (byte_class b))) g

-- a token whatever stands before and after it
whole : (kind : TokenKind) (prev : Previous) (q : Place) (dollars : List Token) (due : List t.PendingHereDoc) (p : Place) (b : ℕ) (c : ByteClass) → IsWhole kind →
    spans.end_operator (spans.starts prev q) dollars (Some kind) due p b c ≡ spans.emit (spans.token kind q p ∷ []) (spans.begin previous.Apart due p b c)
whole tk.Ampersand previous.Apart q dollars due p b c h = refl
whole tk.Ampersand prev q dollars due p b c h = refl
whole tk.AndAnd previous.Apart q dollars due p b c h = refl
whole tk.AndAnd prev q dollars due p b c h = refl
whole tk.OrOr previous.Apart q dollars due p b c h = refl
whole tk.OrOr prev q dollars due p b c h = refl
whole (tk.Bar slot) previous.Apart q dollars due p b c h = refl
whole (tk.Bar slot) prev q dollars due p b c h = refl
whole (tk.Redirection mode slot) previous.Apart q dollars due p b c h = refl
whole (tk.Redirection mode slot) prev q dollars due p b c h = refl
whole (tk.CopyTo to from) previous.Apart q dollars due p b c h = refl
whole (tk.CopyTo to from) prev q dollars due p b c h = refl
whole kind prev q dollars due p b c h = absurd h

pub whole_ends_on : (text : List ℕ) (old new : Reading) (start : TokenStart) (op : Op) (kind : TokenKind) (p : Place) (b : ℕ) → p.byte < length text → b ≡ get_or text p.byte 0 → next_op op b ≡ None → op_kind op ≡ Some kind → IsWhole kind →
    new.tokens.items ≡ old.tokens.items ++ spans.token kind start.place p ∷ [] → new.bodies.items ≡ old.bodies.items → new.pending.items ≡ old.pending.items →
    HasRead text old (state.Operator start op) p → HasRead text new (state.Between previous.Apart) p
whole_ends_on text old new start op kind p b h e f g i x y z has =
    goes_on_as text old new (state.Operator start op) (state.Between previous.Apart) p b h e
    (ends_as text old start op kind p b f g
    ∙ ap (appended old.tokens.items old.bodies.items) (whole kind start.previous start.place old.dollars.items (pending_in old) p b (byte_class b) i)
    ∙ after_adding (spans.token kind start.place p ∷ []) old new previous.Apart p b (byte_class b) (record { tokens = x; bodies = y; pending = z })) tt has

-- a `$` before its name
pub dollar_ends_on : (text : List ℕ) (old new : Reading) (start : TokenStart) (op : Op) (p : Place) (b : ℕ) (v : Bool) → p.byte < length text → b ≡ get_or text p.byte 0 → next_op op b ≡ None → op_kind op ≡ Some tk.Dollar →
    v ≡ (t.is_name_char b || (b == 39)) → v ≡ true → old.dollars.items ≡ [] → Adds (spans.tokens_of start.previous tk.Dollar start.place p) old new →
    HasRead text old (state.Operator start op) p → HasRead text new (state.Between previous.Dollar) p
dollar_ends_on text old new start op p b v h e f g i i' w a has =
    let ts = old.tokens.items in
    let it = spans.token tk.Dollar start.place p ∷ [] in
    let begun = spans.begin previous.Dollar (pending_in old) p b (byte_class b) in
    goes_on_as text old new (state.Operator start op) (state.Between previous.Dollar) p b h e
    (ends_as text old start op tk.Dollar p b f g
    ∙ ap (λ ds. appended ts old.bodies.items (spans.emit (spans.caret start.previous tk.Dollar start.place) (spans.after_dollars (ds ++ it) (pending_in old) p b (byte_class b)))) w
    ∙ ap (λ z. appended ts old.bodies.items (spans.emit (spans.caret start.previous tk.Dollar start.place) (cond z (spans.emit it begun)
    (cond (b == 36) (Ok ([], [], state.Operator (spans.starts previous.Dollar p) Dollar0, it, pending_in old)) (spans.emit (spans.bare it) (spans.begin previous.Apart (pending_in old) p b (byte_class b))))))) (sym i ∙ i')
    ∙ ap (appended ts old.bodies.items) (emit_emit (spans.caret start.previous tk.Dollar start.place) it begun)
    ∙ after_adding (spans.caret start.previous tk.Dollar start.place ++ it) old new previous.Dollar p b (byte_class b) (record { tokens = a.tokens; bodies = a.bodies; pending = a.pending })) tt has

-- a quoted word
stays_in_quotes : (text : List ℕ) (start : TokenStart) (dollars : List Token) (due : List t.PendingHereDoc) (p : Place) (b : ℕ) (c : ByteClass) → c ≢ k.Quote →
    spans.step text (state.Quoted start) dollars due p b c ≡ spans.goes [] (state.Quoted start) due
stays_in_quotes text start dollars due p b k.Quote n = absurd (n refl)
stays_in_quotes text start dollars due p b c n = refl

pub quoted_begins_on : (text : List ℕ) (reading : Reading) (prev : Previous) (p q : Place) (b : ℕ) (c : ByteClass) → p.byte < length text → b ≡ get_or text p.byte 0 → c ≡ byte_class b → c ≡ k.Quote →
    q ≡ after_byte p b → HasRead text reading (state.Between prev) p → HasRead text reading (state.Quoted (record { previous = prev; place = p })) q
quoted_begins_on text reading prev p q b c h e f g j has =
    let start : TokenStart = record { previous = prev; place = p } in
    class_reads_on text reading reading (state.Between prev) (state.Quoted start) p q b 0 k.Quote h e (sym g ∙ f) j has (goes_takes reading (state.Quoted start) refl)

pub quote_on : (text : List ℕ) (reading : Reading) (start : TokenStart) (v w : Bool) (p q : Place) (b : ℕ) (c : ByteClass) → p.byte < length text → b ≡ get_or text p.byte 0 → c ≡ byte_class b → c ≡ k.Quote →
    w ≡ not v → q ≡ after_byte p b → HasRead text reading (in_quotes start v) p → HasRead text reading (in_quotes start w) q
quote_on text reading start true w p q b c h e f g i j has =
    subst (λ z. HasRead text reading (in_quotes start z) q) (sym i)
    (class_reads_on text reading reading (state.Closed start) (state.Quoted start) p q b 0 k.Quote h e (sym g ∙ f) j has (goes_takes reading (state.Quoted start) refl))
quote_on text reading start false w p q b c h e f g i j has =
    subst (λ z. HasRead text reading (in_quotes start z) q) (sym i)
    (class_reads_on text reading reading (state.Quoted start) (state.Closed start) p q b 0 k.Quote h e (sym g ∙ f) j has (goes_takes reading (state.Closed start) refl))

pub quoted_goes_on : (text : List ℕ) (reading : Reading) (start : TokenStart) (v w : Bool) (p q : Place) (b : ℕ) (c : ByteClass) → p.byte < length text → b ≡ get_or text p.byte 0 → c ≡ byte_class b → c ≢ k.Quote →
    v ≡ false → w ≡ v → q ≡ after_byte p b → HasRead text reading (in_quotes start v) p → HasRead text reading (in_quotes start w) q
quoted_goes_on text reading start true w p q b c h e f n i i' j has = absurd cc
quoted_goes_on text reading start false w p q b c h e f n i i' j has =
    subst (λ z. HasRead text reading (in_quotes start z) q) (sym i')
    (class_reads_on text reading reading (state.Quoted start) (state.Quoted start) p q b 0 c h e f j has
    (subst (λ z. Takes reading reading (Ok (state.Quoted start)) z) (sym (stays_in_quotes text start [] (pending_in reading) p b c n)) (goes_takes reading (state.Quoted start) refl)))

closed_ends : (text : List ℕ) (start : TokenStart) (dollars : List Token) (due : List t.PendingHereDoc) (p : Place) (b : ℕ) (c : ByteClass) → c ≢ k.Quote →
    spans.step text (state.Closed start) dollars due p b c ≡ spans.ends_word true text start due p b c
closed_ends text start dollars due p b k.Quote n = absurd (n refl)
closed_ends text start dollars due p b c n = refl

pub quoted_ends_on : (text : List ℕ) (old new : Reading) (start : TokenStart) (after : Previous) (v : Bool) (p : Place) (b : ℕ) → p.byte < length text → b ≡ get_or text p.byte 0 → EndsQuoted v b →
    AddsWord true text start.previous after start.place p old new → HasRead text old (in_quotes start v) p → HasRead text new (state.Between after) p
quoted_ends_on text old new start after true p b h e n a has =
    let due' = spans.word_due true text start.previous start.place p (pending_in old) in
    goes_on_as text old new (state.Closed start) (state.Between after) p b h e
    (ap (appended old.tokens.items old.bodies.items) (closed_ends text start [] (pending_in old) p b (byte_class b) n.1)
    ∙ appended_emit old.tokens.items (spans.word_tokens true start.previous start.place p) old.bodies.items (spans.begin (spans.word_after true start.previous) due' p b (byte_class b))
    ∙ ap (λ z. appended z old.bodies.items (spans.begin (spans.word_after true start.previous) due' p b (byte_class b))) (sym a.tokens)
    ∙ ap (λ z. appended new.tokens.items z (spans.begin (spans.word_after true start.previous) due' p b (byte_class b))) (sym a.bodies)
    ∙ ap (λ z. appended new.tokens.items new.bodies.items (spans.begin z due' p b (byte_class b))) (sym a.after_word)
    ∙ ap (λ z. appended new.tokens.items new.bodies.items (spans.begin after z p b (byte_class b))) (sym a.pending)) tt has
quoted_ends_on text old new start after false p b h e n a has = absurd cc

pub backslash_begins_on : (text : List ℕ) (reading : Reading) (prev : Previous) (p q : Place) (b : ℕ) (c : ByteClass) → p.byte < length text → b ≡ get_or text p.byte 0 → c ≡ byte_class b → c ≡ k.Backslash →
    q ≡ after_byte p b → HasRead text reading (state.Between prev) p → HasRead text reading (state.Backslash (record { previous = prev; place = p })) q
backslash_begins_on text reading prev p q b c h e f g j has =
    let start : TokenStart = record { previous = prev; place = p } in
    class_reads_on text reading reading (state.Between prev) (state.Backslash start) p q b 0 k.Backslash h e (sym g ∙ f) j has (goes_takes reading (state.Backslash start) refl)

pub still_some : {X Y : Type 0} (f : X → Y) (xs : List X) (v : Bool) → v ≡ (length xs == 0) → v ≡ false → map f xs ≢ []
still_some f [] v e g h = absurd cc
still_some f (x ∷ xs) v e g h = absurd cc

-- the body of a here document
stays_in_body : (text : List ℕ) (body line : ℕ) (dollars : List Token) (due : List t.PendingHereDoc) (p : Place) (b : ℕ) (c : ByteClass) → due ≢ [] → c ≢ k.LineEnd →
    spans.step text (state.Body body line) dollars due p b c ≡ spans.goes [] (state.Body body line) due
stays_in_body text body line dollars [] p b c m n = absurd (m refl)
stays_in_body text body line dollars (d ∷ due) p b k.LineEnd m n = absurd (n refl)
stays_in_body text body line dollars (d ∷ due) p b c m n = refl

pub body_goes_on : (text : List ℕ) (reading : Reading) (body line : ℕ) (p q : Place) (b : ℕ) (c : ByteClass) → pending_in reading ≢ [] → p.byte < length text → b ≡ get_or text p.byte 0 → c ≡ byte_class b → c ≢ k.LineEnd →
    q ≡ after_byte p b → HasRead text reading (state.Body body line) p → HasRead text reading (state.Body body line) q
body_goes_on text reading body line p q b c m h e f n j has =
    class_reads_on text reading reading (state.Body body line) (state.Body body line) p q b 0 c h e f j has
    (subst (λ z. Takes reading reading (Ok (state.Body body line)) z) (sym (stays_in_body text body line [] (pending_in reading) p b c m n)) (goes_takes reading (state.Body body line) refl))

-- a comment
comment_takes : (prev : Previous) (p : Place) (b : ℕ) (old new : Reading) → Adds (spans.bare_here prev) old new → Takes old new (Ok state.Comment) (spans.begin prev (pending_in old) p b k.Hash)
comment_takes prev p b old new a =
    ap (λ z. Ok (old.tokens.items ++ spans.bare_here prev, z, state.Comment, [], pending_in old)) (append-nil old.bodies.items ∙ sym a.bodies)
    ∙ ap (λ z. Ok (z, new.bodies.items, state.Comment, [], pending_in old)) (sym a.tokens)
    ∙ ap (λ z. Ok (new.tokens.items, new.bodies.items, state.Comment, [], map pending_of z)) (sym a.pending)

pub comment_begins_on : (text : List ℕ) (old new : Reading) (prev : Previous) (p q : Place) (b : ℕ) (c : ByteClass) → p.byte < length text → b ≡ get_or text p.byte 0 → c ≡ byte_class b → c ≡ k.Hash →
    q ≡ after_byte p b → Adds (spans.bare_here prev) old new → HasRead text old (state.Between prev) p → HasRead text new state.Comment q
comment_begins_on text old new prev p q b c h e f g j a has =
    class_reads_on text old new (state.Between prev) state.Comment p q b 0 k.Hash h e (sym g ∙ f) j has (comment_takes prev p b old new a)

stays_in_comment : (text : List ℕ) (dollars : List Token) (due : List t.PendingHereDoc) (p : Place) (b : ℕ) (c : ByteClass) → c ≢ k.LineEnd →
    spans.step text state.Comment dollars due p b c ≡ spans.goes [] state.Comment due
stays_in_comment text dollars due p b k.LineEnd n = absurd (n refl)
stays_in_comment text dollars due p b c n = refl

pub comment_goes_on : (text : List ℕ) (reading : Reading) (p q : Place) (b : ℕ) (c : ByteClass) → p.byte < length text → b ≡ get_or text p.byte 0 → c ≡ byte_class b → c ≢ k.LineEnd →
    q ≡ after_byte p b → HasRead text reading state.Comment p → HasRead text reading state.Comment q
comment_goes_on text reading p q b c h e f n j has =
    class_reads_on text reading reading state.Comment state.Comment p q b 0 c h e f j has
    (subst (λ z. Takes reading reading (Ok state.Comment) z) (sym (stays_in_comment text [] (pending_in reading) p b c n)) (goes_takes reading state.Comment refl))

pub comment_ends_on : (text : List ℕ) (reading : Reading) (p : Place) (b : ℕ) (c : ByteClass) → p.byte < length text → b ≡ get_or text p.byte 0 → c ≡ byte_class b → c ≡ k.LineEnd →
    HasRead text reading state.Comment p → HasRead text reading (state.Between previous.Apart) p
comment_ends_on text reading p b c h e f g has =
    goes_on_as text reading reading state.Comment (state.Between previous.Apart) p b h e
    (ap (λ z. appended reading.tokens.items reading.bodies.items (spans.step text state.Comment [] (pending_in reading) p b z)) (sym (sym g ∙ f))
    ∙ ap (λ z. appended reading.tokens.items reading.bodies.items (spans.begin previous.Apart (pending_in reading) p b z)) (sym g ∙ f)) tt has
