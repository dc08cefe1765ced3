-- What the lexer does at the end of a text.
use Rattle.std.proofs.Common.{◌≡◌, ℕ, Bool, List, [], ◌∷◌, ◌++◌, map, refl, sym, ap, subst, ◌∙◌, append_assoc}
use Rattle.std.specs.Prelude.{Option, Some, Result, Ok, Err}
use Rattle.std.proofs.lemmas.List.{append-nil}
use Rattle.rc_model.specs.Syntax.Tokens as t
use Rattle.rc_lexer.specs.Spans as spans
use Rattle.rc_lexer.specs.Ends as e
use Rattle.rc_lexer.specs.Ends.{Ends, IsClosed, closed, after}
use Rattle.rc_lexer.specs.Answers.{ScriptError}
use Rattle.rc_lexer.specs.Machine.{pending_of, pending_in, Adds, AddsWord, PushedDollars}
use Rattle.rc_model.specs.declared.fault.SyntaxFault.{SyntaxFault}
use Rattle.rc_model.specs.declared.fault.InputError.TheVariants.{Fault, NoMemory}
use Rattle.rc_model.specs.declared.syntax.Place.{Place}
use Rattle.rc_model.specs.declared.syntax.Previous.{Previous}
use Rattle.rc_lexer.specs.declared.Span.{Span}
use Rattle.rc_lexer.specs.declared.Token.{Token}
use Rattle.rc_lexer.specs.declared.TokenKind.{TokenKind}
use Rattle.rc_lexer.specs.declared.lexer_state.TokenStart.{TokenStart}
use Rattle.rc_lexer.specs.declared.lexer_state.Reading.{Reading}

closed_ok : (ts : List Token) (bodies : List Span) (due : List t.PendingHereDoc) → closed [] [] due ≡ Ok ([], []) → closed ts bodies due ≡ Ok (ts, bodies)
closed_ok ts bodies [] h = refl
closed_ok ts bodies (d ∷ due) h = absurd cc

closed_err : (ts : List Token) (bodies : List Span) (due : List t.PendingHereDoc) (f : SyntaxFault) → closed [] [] due ≡ Err f → closed ts bodies due ≡ Err f
closed_err ts bodies [] f h = absurd cc
closed_err ts bodies (d ∷ due) f h = h

-- these tokens and bodies are the last ones
pub closes : (ts : List Token) (bodies : List Span) (due : List t.PendingHereDoc) (old new : Reading) (r : Result (Unit {0}) ScriptError) →
    new.tokens.items ≡ old.tokens.items ++ ts → new.bodies.items ≡ old.bodies.items ++ bodies → pending_in new ≡ due → IsClosed (pending_in new) r →
    Ends old new r (closed ts bodies due)
closes ts bodies due old new (Ok u) e f g h =
    ap (after old.tokens.items old.bodies.items) (closed_ok ts bodies due (ap (closed [] []) (sym g) ∙ h))
    ∙ ap (λ z. Ok (z, old.bodies.items ++ bodies)) (sym e) ∙ ap (λ z. Ok (new.tokens.items, z)) (sym f)
closes ts bodies due old new (Err (Fault x)) e f g h = closed_err ts bodies due x (ap (closed [] []) (sym g) ∙ h)
closes ts bodies due old new (Err NoMemory) e f g h = tt

pub same_bodies : (old new : Reading) → new.bodies.items ≡ old.bodies.items → new.bodies.items ≡ old.bodies.items ++ []
same_bodies old new e = e ∙ sym (append-nil old.bodies.items)

pub adds_closes : (ts : List Token) (old new : Reading) (r : Result (Unit {0}) ScriptError) → Adds ts old new → IsClosed (pending_in new) r → Ends old new r (closed ts [] (pending_in old))
adds_closes ts old new r a h = closes ts [] (pending_in old) old new r a.tokens (same_bodies old new a.bodies) (ap (map pending_of) a.pending) h

pub word_closes : (script : List ℕ) (quoted : Bool) (start : TokenStart) (after' : Previous) (p : Place) (old new : Reading) (r : Result (Unit {0}) ScriptError) →
    AddsWord quoted script start.previous after' start.place p old new → IsClosed (pending_in new) r → Ends old new r (e.ended quoted script start (pending_in old) p)
word_closes script quoted start after' p old new r a h =
    closes (spans.word_tokens quoted start.previous start.place p) [] (spans.word_due quoted script start.previous start.place p (pending_in old)) old new r a.tokens (same_bodies old new a.bodies) a.pending h

pub operator_closes : (start : TokenStart) (o : Option TokenKind) (kind meaning : TokenKind) (p : Place) (old bared new : Reading) (r : Result (Unit {0}) ScriptError) → o ≡ Some kind → meaning ≡ spans.meaning start.previous kind →
    PushedDollars spans.bare old bared → Adds (spans.tokens_of start.previous meaning start.place p) bared new → IsClosed (pending_in new) r →
    Ends old new r (e.finish_operator start old.dollars.items o (pending_in old) p)
operator_closes start o kind meaning p old bared new r i m s a h =
    let ts = spans.bare old.dollars.items ++ spans.tokens_of start.previous (spans.meaning start.previous kind) start.place p in
    subst (λ z. Ends old new r (e.finish_operator start old.dollars.items z (pending_in old) p)) (sym i)
    (closes ts [] (pending_in old) old new r
    (a.tokens ∙ ap (λ z. z ++ spans.tokens_of start.previous meaning start.place p) s.tokens
    ∙ ap (λ z. (old.tokens.items ++ spans.bare old.dollars.items) ++ spans.tokens_of start.previous z start.place p) m
    ∙ append_assoc old.tokens.items (spans.bare old.dollars.items) (spans.tokens_of start.previous (spans.meaning start.previous kind) start.place p))
    (same_bodies old new (a.bodies ∙ s.bodies)) (ap (map pending_of) (a.pending ∙ s.pending)) h)
