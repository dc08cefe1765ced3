-- What the lexer does, piece by piece.
use Rattle.std.proofs.Common.{◌≡◌, ◌≢◌, ◌⊎◌, inl, inr, ℕ, Bool, true, cond, ◌==◌, ◌||◌, List, [], ◌∷◌, ◌++◌, map, refl, sym, ap, subst, ◌∙◌, append_assoc}
use Rattle.std.specs.Prelude.{Option, Some, Result, Ok, Err}
use Rattle.rc_model.specs.Syntax.Tokens as t
use Rattle.rc_lexer.specs.Spans as spans
use Rattle.rc_lexer.specs.Spans.{AfterByte}
use Rattle.rc_lexer.specs.Answers.{ScriptError}
use Rattle.rc_lexer.specs.Machine.{pending_of, pending_in, appended, Takes, Adds, AddsWord, PushedDollars}
use Rattle.rc_model.specs.declared.fault.InputError.TheVariants.{Fault, NoMemory}
use Rattle.rc_model.specs.declared.syntax.Place.{Place}
use Rattle.rc_model.specs.declared.syntax.Previous.{Previous}
use Rattle.rc_model.specs.declared.syntax.Previous.TheVariants as previous
use Rattle.rc_lexer.specs.declared.TokenKind.{TokenKind}
use Rattle.rc_lexer.specs.declared.TokenKind.TheVariants as tk
use Rattle.rc_lexer.specs.declared.operators.Op.TheVariants.{Dollar0}
use Rattle.rc_lexer.specs.declared.lexer_state.LexerState.TheVariants as state
use Rattle.rc_lexer.specs.declared.Span.{Span}
use Rattle.rc_lexer.specs.declared.Token.{Token}
use Rattle.rc_lexer.specs.declared.lexer_state.LexerState.{LexerState}
use Rattle.rc_lexer.specs.declared.lexer_state.TokenStart.{TokenStart}
use Rattle.rc_lexer.specs.declared.lexer_state.Reading.{Reading}
use Rattle.rc_lexer.specs.declared.byte_classes.ByteClass.{ByteClass}

pub appended_emit : (ts us : List Token) (bodies : List Span) (x : AfterByte) → appended ts bodies (spans.emit us x) ≡ appended (ts ++ us) bodies x
appended_emit ts us bodies (Ok x) = ap (λ z. Ok (z, bodies ++ x.1, x.2, x.3, x.4)) (sym (append_assoc ts us x.0))
appended_emit ts us bodies (Err f) = refl

-- the tokens of a step come after those so far
pub emits : (us : List Token) (x : AfterByte) (old mid new : Reading) (r : Result LexerState ScriptError) → mid.tokens.items ≡ old.tokens.items ++ us →
    mid.bodies.items ≡ old.bodies.items → Takes mid new r x → Takes old new r (spans.emit us x)
emits us x old mid new (Ok s) t b d =
    appended_emit old.tokens.items us old.bodies.items x ∙ ap (λ z. appended z old.bodies.items x) (sym t) ∙ ap (λ z. appended mid.tokens.items z x) (sym b) ∙ d
emits us x old mid new (Err (Fault f)) t b d = ap (spans.emit us) d
emits us x old mid new (Err NoMemory) t b d = d

pub along : (old new : Reading) (r : Result LexerState ScriptError) (x y : AfterByte) → x ≡ y → Takes old new r x → Takes old new r y
along old new r x y e d = subst (λ z. Takes old new r z) e d

-- a word ends, and the byte begins something
pub word_does : (script : List ℕ) (quoted : Bool) (start : TokenStart) (after : Previous) (p : Place) (b : ℕ) (k : ByteClass) (old mid new : Reading) (r : Result LexerState ScriptError) →
    AddsWord quoted script start.previous after start.place p old mid → Takes mid new r (spans.begin after (pending_in mid) p b k) →
    Takes old new r (spans.ends_word quoted script start (pending_in old) p b k)
word_does script quoted start after p b k old mid new r a d =
    emits (spans.word_tokens quoted start.previous start.place p)
    (spans.begin (spans.word_after quoted start.previous) (spans.word_due quoted script start.previous start.place p (pending_in old)) p b k) old mid new r a.tokens a.bodies
    (along mid new r _ _ (ap (λ z. spans.begin z (pending_in mid) p b k) a.after_word ∙ ap (λ z. spans.begin (spans.word_after quoted start.previous) z p b k) a.pending) d)

-- after `$`s
pub named_does : (p : Place) (b : ℕ) (k : ByteClass) (old mid new : Reading) (r : Result LexerState ScriptError) → (t.is_name_char b || (b == 39)) ≡ true →
    PushedDollars (λ dollars. dollars) old mid → Takes mid new r (spans.begin previous.Dollar (pending_in mid) p b k) →
    Takes old new r (spans.after_dollars old.dollars.items (pending_in old) p b k)
named_does p b k old mid new r h s d =
    along old new r _ _ (sym (ap (λ v. cond v (spans.emit old.dollars.items (spans.begin previous.Dollar (pending_in old) p b k))
    (cond (b == 36) (Ok ([], [], state.Operator (spans.starts previous.Dollar p) Dollar0, old.dollars.items, pending_in old))
    (spans.emit (spans.bare old.dollars.items) (spans.begin previous.Apart (pending_in old) p b k)))) h))
    (emits old.dollars.items (spans.begin previous.Dollar (pending_in old) p b k) old mid new r s.tokens s.bodies
    (along mid new r _ _ (ap (λ q. spans.begin previous.Dollar (map pending_of q) p b k) s.pending) d))

end_along : (start : TokenStart) (dollars : List Token) (o : Option TokenKind) (kind : TokenKind) (due : List t.PendingHereDoc) (p : Place) (b : ℕ) (k : ByteClass) (old new : Reading)
    (r : Result LexerState ScriptError) → o ≡ Some kind → Takes old new r (spans.end_operator start dollars (Some kind) due p b k) → Takes old new r (spans.end_operator start dollars o due p b k)
end_along start dollars o kind due p b k old new r e d = along old new r _ _ (ap (λ z. spans.end_operator start dollars z due p b k) (sym e)) d

-- a `$`
pub dollar_does : (start : TokenStart) (o : Option TokenKind) (p : Place) (b : ℕ) (k : ByteClass) (old mid mid' new : Reading) (r : Result LexerState ScriptError) → o ≡ Some tk.Dollar →
    Adds (spans.caret start.previous tk.Dollar start.place) old mid → mid'.tokens.items ≡ mid.tokens.items → mid'.bodies.items ≡ mid.bodies.items → mid'.pending.items ≡ mid.pending.items →
    mid'.dollars.items ≡ mid.dollars.items ++ spans.token tk.Dollar start.place p ∷ [] →
    Takes mid' new r (spans.after_dollars mid'.dollars.items (pending_in mid') p b k) →
    Takes old new r (spans.end_operator start old.dollars.items o (pending_in old) p b k)
dollar_does start o p b k old mid mid' new r e a mt mb mp md d =
    let ds = old.dollars.items ++ spans.token tk.Dollar start.place p ∷ [] in
    end_along start old.dollars.items o tk.Dollar (pending_in old) p b k old new r e
    (emits (spans.caret start.previous tk.Dollar start.place) (spans.after_dollars ds (pending_in old) p b k) old mid' new r (mt ∙ a.tokens) (mb ∙ a.bodies)
    (along mid' new r _ _ (ap (λ z. spans.after_dollars z (pending_in mid') p b k) (md ∙ ap (λ z. z ++ spans.token tk.Dollar start.place p ∷ []) a.dollars)
    ∙ ap (λ q. spans.after_dollars ds (map pending_of q) p b k) (mp ∙ a.pending)) d))

-- a `$#` or a `$"`
sigil_does : (start : TokenStart) (kind : TokenKind) (p : Place) (b : ℕ) (k : ByteClass) (old mid bared mid' new : Reading) (r : Result LexerState ScriptError) →
    Adds (spans.caret start.previous tk.Dollar start.place) old mid → PushedDollars spans.bare mid bared → mid'.tokens.items ≡ bared.tokens.items → mid'.bodies.items ≡ bared.bodies.items →
    mid'.pending.items ≡ bared.pending.items → mid'.dollars.items ≡ bared.dollars.items ++ spans.token kind start.place p ∷ [] →
    Takes mid' new r (spans.after_dollars mid'.dollars.items (pending_in mid') p b k) →
    Takes old new r (spans.emit (spans.caret start.previous tk.Dollar start.place ++ spans.bare old.dollars.items) (spans.after_dollars (spans.token kind start.place p ∷ []) (pending_in old) p b k))
sigil_does start kind p b k old mid bared mid' new r a s mt mb mp md d =
    emits (spans.caret start.previous tk.Dollar start.place ++ spans.bare old.dollars.items) (spans.after_dollars (spans.token kind start.place p ∷ []) (pending_in old) p b k) old mid' new r
    (mt ∙ s.tokens ∙ ap (λ z. z ++ spans.bare mid.dollars.items) a.tokens ∙ append_assoc old.tokens.items (spans.caret start.previous tk.Dollar start.place) (spans.bare mid.dollars.items)
    ∙ ap (λ z. old.tokens.items ++ (spans.caret start.previous tk.Dollar start.place ++ spans.bare z)) a.dollars)
    (mb ∙ s.bodies ∙ a.bodies)
    (along mid' new r _ _ (ap (λ z. spans.after_dollars z (pending_in mid') p b k) (md ∙ ap (λ z. z ++ spans.token kind start.place p ∷ []) s.dollars)
    ∙ ap (λ q. spans.after_dollars (spans.token kind start.place p ∷ []) (map pending_of q) p b k) (mp ∙ s.pending ∙ a.pending)) d)

pub sigils_do : (start : TokenStart) (o : Option TokenKind) (kind : TokenKind) (p : Place) (b : ℕ) (k : ByteClass) (old mid bared mid' new : Reading) (r : Result LexerState ScriptError) → o ≡ Some kind →
    (kind ≡ tk.DollarCount) ⊎ (kind ≡ tk.DollarFlat) →
    Adds (spans.caret start.previous tk.Dollar start.place) old mid → PushedDollars spans.bare mid bared → mid'.tokens.items ≡ bared.tokens.items → mid'.bodies.items ≡ bared.bodies.items →
    mid'.pending.items ≡ bared.pending.items → mid'.dollars.items ≡ bared.dollars.items ++ spans.token kind start.place p ∷ [] →
    Takes mid' new r (spans.after_dollars mid'.dollars.items (pending_in mid') p b k) →
    Takes old new r (spans.end_operator start old.dollars.items o (pending_in old) p b k)
sigils_do start o kind p b k old mid bared mid' new r e (inl f) a s mt mb mp md d =
    end_along start old.dollars.items o tk.DollarCount (pending_in old) p b k old new r (e ∙ ap (λ z. Some z) f)
    (subst (λ z. Takes old new r (spans.emit (spans.caret start.previous tk.Dollar start.place ++ spans.bare old.dollars.items) (spans.after_dollars (spans.token z start.place p ∷ []) (pending_in old) p b k))) f
    (sigil_does start kind p b k old mid bared mid' new r a s mt mb mp md d))
sigils_do start o kind p b k old mid bared mid' new r e (inr f) a s mt mb mp md d =
    end_along start old.dollars.items o tk.DollarFlat (pending_in old) p b k old new r (e ∙ ap (λ z. Some z) f)
    (subst (λ z. Takes old new r (spans.emit (spans.caret start.previous tk.Dollar start.place ++ spans.bare old.dollars.items) (spans.after_dollars (spans.token z start.place p ∷ []) (pending_in old) p b k))) f
    (sigil_does start kind p b k old mid bared mid' new r a s mt mb mp md d))

-- any other operator
plain : (kind : TokenKind) → kind ≢ tk.BareHere → kind ≢ tk.Dollar → kind ≢ tk.DollarCount → kind ≢ tk.DollarFlat →
    (start : TokenStart) (dollars : List Token) (due : List t.PendingHereDoc) (p : Place) (b : ℕ) (k : ByteClass) →
    spans.emit (spans.tokens_of start.previous (spans.meaning start.previous kind) start.place p) (spans.begin (t.after_token start.previous (spans.shape (spans.meaning start.previous kind))) due p b k)
    ≡ spans.end_operator start dollars (Some kind) due p b k
plain tk.BareHere a b' d e start dollars due p b k = absurd (a refl)
plain tk.Dollar a b' d e start dollars due p b k = absurd (b' refl)
plain tk.DollarCount a b' d e start dollars due p b k = absurd (d refl)
plain tk.DollarFlat a b' d e start dollars due p b k = absurd (e refl)
plain kind a b' d e start dollars due p b k = refl

pub plain_does : (start : TokenStart) (o : Option TokenKind) (kind meaning : TokenKind) (after : Previous) (p : Place) (b : ℕ) (k : ByteClass) (old mid new : Reading) (r : Result LexerState ScriptError) → o ≡ Some kind →
    kind ≢ tk.BareHere → kind ≢ tk.Dollar → kind ≢ tk.DollarCount → kind ≢ tk.DollarFlat →
    meaning ≡ spans.meaning start.previous kind → after ≡ t.after_token start.previous (spans.shape meaning) →
    Adds (spans.tokens_of start.previous meaning start.place p) old mid →
    Takes mid new r (spans.begin after (pending_in mid) p b k) →
    Takes old new r (spans.end_operator start old.dollars.items o (pending_in old) p b k)
plain_does start o kind meaning after p b k old mid new r e n1 n2 n3 n4 m f a d =
    let kind' = spans.meaning start.previous kind in
    end_along start old.dollars.items o kind (pending_in old) p b k old new r e
    (along old new r _ _ (plain kind n1 n2 n3 n4 start old.dollars.items (pending_in old) p b k)
    (emits (spans.tokens_of start.previous kind' start.place p) (spans.begin (t.after_token start.previous (spans.shape kind')) (pending_in old) p b k) old mid new r
    (a.tokens ∙ ap (λ z. old.tokens.items ++ spans.tokens_of start.previous z start.place p) m) a.bodies
    (along mid new r _ _ (ap (λ z. spans.begin z (pending_in mid) p b k) (f ∙ ap (λ z. t.after_token start.previous (spans.shape z)) m)
    ∙ ap (λ q. spans.begin (t.after_token start.previous (spans.shape kind')) (map pending_of q) p b k) a.pending) d)))
