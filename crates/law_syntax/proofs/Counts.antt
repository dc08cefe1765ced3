-- A text has as many bodies as here documents, and those that were due before.
use Rattle.std.proofs.Common.{◌≡◌, ℕ, suc, ◌+◌, Bool, true, false, if◌then◌else◌, List, [], ◌∷◌, ◌++◌, length, Some, refl, sym, ap, ◌∙◌, arith, length-append, rules}
use Rattle.std.specs.Prelude.{Ok, Err, option_map, find, bytes_eq}
use Rattle.rc_model.specs.Syntax.Accepted.{lexemes}
use Rattle.rc_model.specs.Syntax.Tokens as t
use Rattle.rc_model.specs.Syntax.Tokens.{Lexeme, Token, PendingHereDoc, Outcome, Cuts, IsLexeme, Bodies, filled, is_here}
use Rattle.rc_model.specs.declared.syntax.Place.{Place}
use Rattle.rc_model.specs.declared.syntax.Previous.{Previous}
use Rattle.rc_model.specs.declared.syntax.Previous.TheVariants as previous

-- how many here documents these are
abbrev pub heres : List Token → ℕ
heres [] = 0
heres (x ∷ ts) = (if is_here x.lexeme then suc (heres ts) else heres ts)

pub heres_append : (ts us : List Token) → heres (ts ++ us) ≡ heres ts + heres us
heres_append [] us = omega arith
heres_append (x ∷ ts) us = by (is_here x.lexeme) (heres_append ts us)
  where
    by : (b : Bool) → heres (ts ++ us) ≡ heres ts + heres us → (if b then suc (heres (ts ++ us)) else heres (ts ++ us)) ≡ (if b then suc (heres ts) else heres ts) + heres us
    by true h = omega arith
    by false h = h

-- ** lexemes that are spelled are no here documents

abbrev NoHeres : List (List ℕ × Lexeme) → Type 0
NoHeres [] = Unit {0}
NoHeres (o ∷ os) = (is_here o.1 ≡ false) × NoHeres os

found_not_here : (cs : List ℕ) (m : Lexeme) (os : List (List ℕ × Lexeme)) → NoHeres os → option_map (λ o. o.1) (find (λ o. bytes_eq o.0 cs) os) ≡ Some m → is_here m ≡ false
found_not_here cs m [] w e = cc
found_not_here cs m (o ∷ os) w e = go (bytes_eq o.0 cs) e (λ f. found_not_here cs m os w.1 f)
  where
    go : (q : Bool) → option_map (λ o. o.1) (if q then Some o else find (λ o. bytes_eq o.0 cs) os) ≡ Some m →
        (option_map (λ o. o.1) (find (λ o. bytes_eq o.0 cs) os) ≡ Some m → is_here m ≡ false) → is_here m ≡ false
    go true e then' = let same : o.1 ≡ m = cc in sym (ap is_here same) ∙ w.0
    go false e then' = then' e

operators_not_here : NoHeres t.operators
operators_not_here = search rules depth 40

either_not_here : (b : Bool) (m n : Lexeme) → is_here m ≡ false → is_here n ≡ false → is_here (if b then m else n) ≡ false
either_not_here true m n h k = h
either_not_here false m n h k = k

meant_not_here : (prev : Previous) (rest : List ℕ) (m : Lexeme) → is_here m ≡ false → is_here (t.meant prev rest m) ≡ false
meant_not_here previous.Name rest t.LeftParen h = refl
meant_not_here prev rest t.Dollar h = either_not_here (t.names rest) t.Dollar t.BareDollar refl refl
meant_not_here prev rest t.DollarCount h = either_not_here (t.names rest) t.DollarCount t.BareDollar refl refl
meant_not_here prev rest t.DollarFlat h = either_not_here (t.names rest) t.DollarFlat t.BareDollar refl refl
meant_not_here prev rest m h = h

lexeme_not_here : {prev : Previous} {cs rest : List ℕ} {m : Lexeme} → IsLexeme prev cs rest m → is_here m ≡ false
lexeme_not_here (t.word prev c cs rest h r) = refl
lexeme_not_here (t.name c cs rest r) = refl
lexeme_not_here (t.quoted prev cs rest i h) = refl
lexeme_not_here (t.operated prev cs rest m a o n h) = meant_not_here prev rest m (found_not_here cs m t.operators operators_not_here o)

mark_is_here : (m : Lexeme) → is_here (t.as_mark m) ≡ true
mark_is_here (t.Quoted text) = refl
mark_is_here m = refl

-- ** outcomes

-- as many bodies as are due, and one for each here document
abbrev pub Counts : List PendingHereDoc → Outcome → Type 0
Counts due (Ok x) = length x.1 ≡ length due + heres x.0
Counts due (Err f) = Unit {0}

plain_heres : (b : Bool) (m : Lexeme) (p q : Place) → is_here m ≡ false → heres ((if b then t.token t.FreeCaret p p ∷ [] else []) ++ t.token m p q ∷ []) ≡ 0
plain_heres true m p q h = rw h refl
plain_heres false m p q h = rw h refl

lexeme_counts : (prev : Previous) (m : Lexeme) (due : List PendingHereDoc) (p q : Place) → is_here m ≡ false → length (t.pending_after prev m due) ≡ length due + heres (t.tokens_of prev m p q)
lexeme_counts (previous.Here begin end) m due p q h = let e = mark_is_here m in rw e (length-append due _)
lexeme_counts previous.Apart m due p q h = let e = plain_heres (t.wants_caret previous.Apart m) m p q h in omega arith
lexeme_counts previous.Word m due p q h = let e = plain_heres (t.wants_caret previous.Word m) m p q h in omega arith
lexeme_counts previous.Quoted m due p q h = let e = plain_heres (t.wants_caret previous.Quoted m) m p q h in omega arith
lexeme_counts previous.Name m due p q h = let e = plain_heres (t.wants_caret previous.Name m) m p q h in omega arith
lexeme_counts previous.Dollar m due p q h = let e = plain_heres (t.wants_caret previous.Dollar m) m p q h in omega arith

tokens_count : (ts : List Token) (due then' : List PendingHereDoc) (o : Outcome) → length then' ≡ length due + heres ts → Counts then' o → Counts due (t.join ts [] o)
tokens_count ts due then' (Ok x) h k = let e = heres_append ts x.0 in omega arith
tokens_count ts due then' (Err f) h k = tt

bodies_count : {due : List PendingHereDoc} {cs rest : List ℕ} {bodies : List (List ℕ)} → Bodies due cs rest bodies → length bodies ≡ length due
bodies_count (t.all rest) = refl
bodies_count (t.one d due body end cs rest bodies b bs) = ap suc (bodies_count bs)

line_counts : (p q : Place) (due : List PendingHereDoc) (bodies : List (List ℕ)) (o : Outcome) → length bodies ≡ length due → Counts [] o → Counts due (t.join (t.token t.Newline p q ∷ []) bodies o)
line_counts p q due bodies (Ok x) h k = let e = length-append bodies x.1 in omega arith
line_counts p q due bodies (Err f) h k = tt

pub counts : {prev : Previous} {due : List PendingHereDoc} {p : Place} {text : List ℕ} {o : Outcome} → Cuts prev due p text o → Counts due o
counts (t.finish prev p h) = refl
counts (t.open_here prev d due p h) = tt
counts (t.blank prev due p c cs o h k) = counts k
counts (t.continued prev due p cs o k) = counts k
counts (t.comment prev due p cs rest o h r k) = counts k
counts (t.lexeme prev due p cs rest m o i k) = tokens_count _ due _ o (lexeme_counts prev m due p (t.after_chars p cs) (lexeme_not_here i)) (counts k)
counts (t.open_quote prev due p cs i) = tt
counts (t.bad_descriptor prev due p c cs rest h i j k) = tt
counts (t.here prev due p cs rest o h i j k) = counts k
counts (t.no_mark begin' end due p text o h k) = tokens_count (t.token t.BareHere begin' end ∷ []) due due o (omega arith) (counts k)
counts (t.newline prev due p cs rest bodies o h bs k) = line_counts p (t.after_char p 10) due bodies o (bodies_count bs) (counts k)
counts (t.open_body prev due p rest line h i) = tt

-- ** bodies in their tokens

pub filled_none : (ts : List Token) → filled ts [] ≡ ts
filled_none [] = refl
filled_none (x ∷ ts) = refl

-- each of two parts takes its own bodies
pub filled_apart : (ts us : List Token) (bs cs : List (List ℕ)) → length bs ≡ heres ts → filled (ts ++ us) (bs ++ cs) ≡ filled ts bs ++ filled us cs
filled_apart [] us [] cs h = refl
filled_apart [] us (b ∷ bs) cs h = absurd (omega arith)
filled_apart (x ∷ ts) us [] cs h = by (is_here x.lexeme) refl (λ k. filled_apart ts us [] cs k)
  where
    with_rest : (cs : List (List ℕ)) → is_here x.lexeme ≡ false → filled (ts ++ us) cs ≡ filled ts [] ++ filled us cs → filled (x ∷ ts ++ us) cs ≡ x ∷ ts ++ filled us cs
    with_rest [] e g = ap (λ z. x ∷ ts ++ z) (sym (filled_none us))
    with_rest (c ∷ cs) e g = rw e (ap (λ z. x ∷ z) (g ∙ ap (λ z. z ++ filled us (c ∷ cs)) (filled_none ts)))

    by : (v : Bool) → is_here x.lexeme ≡ v → (0 ≡ heres ts → filled (ts ++ us) cs ≡ filled ts [] ++ filled us cs) → filled (x ∷ ts ++ us) cs ≡ x ∷ ts ++ filled us cs
    by true e g = let k : 0 ≡ suc (heres ts) = h ∙ ap (λ z. if z then suc (heres ts) else heres ts) e in absurd (omega arith)
    by false e g = with_rest cs e (g (h ∙ ap (λ z. if z then suc (heres ts) else heres ts) e))
filled_apart (x ∷ ts) us (b ∷ bs) cs h = by (is_here x.lexeme) refl (λ k. filled_apart ts us bs cs k) (λ k. filled_apart ts us (b ∷ bs) cs k)
  where
    body : Token
    body = record { lexeme = t.with_body x.lexeme b; start = x.start; stop = x.stop; line = x.line }

    by : (v : Bool) → is_here x.lexeme ≡ v → (length bs ≡ heres ts → filled (ts ++ us) (bs ++ cs) ≡ filled ts bs ++ filled us cs) →
        (suc (length bs) ≡ heres ts → filled (ts ++ us) (b ∷ bs ++ cs) ≡ filled ts (b ∷ bs) ++ filled us cs) →
        (if is_here x.lexeme then body ∷ filled (ts ++ us) (bs ++ cs) else x ∷ filled (ts ++ us) (b ∷ bs ++ cs))
        ≡ (if is_here x.lexeme then body ∷ filled ts bs else x ∷ filled ts (b ∷ bs)) ++ filled us cs
    by true e f g =
        let k : suc (length bs) ≡ suc (heres ts) = h ∙ ap (λ z. if z then suc (heres ts) else heres ts) e in
        rw e (ap (λ z. body ∷ z) (f (omega arith)))
    by false e f g = rw e (ap (λ z. x ∷ z) (g (h ∙ ap (λ z. if z then suc (heres ts) else heres ts) e)))

-- the lexemes with their bodies go by the lexemes
abbrev pub filled_lexemes : List Lexeme → List (List ℕ) → List Lexeme
filled_lexemes [] bodies = []
filled_lexemes (m ∷ ms) [] = m ∷ ms
filled_lexemes (m ∷ ms) (b ∷ bs) = if is_here m then t.with_body m b ∷ filled_lexemes ms bs else m ∷ filled_lexemes ms (b ∷ bs)

pub lexemes_filled : (ts : List Token) (bs : List (List ℕ)) → lexemes (filled ts bs) ≡ filled_lexemes (lexemes ts) bs
lexemes_filled [] bs = refl
lexemes_filled (x ∷ ts) [] = refl
lexemes_filled (x ∷ ts) (b ∷ bs) = by (is_here x.lexeme) (lexemes_filled ts bs) (lexemes_filled ts (b ∷ bs))
  where
    body : Token
    body = record { lexeme = t.with_body x.lexeme b; start = x.start; stop = x.stop; line = x.line }

    by : (v : Bool) → lexemes (filled ts bs) ≡ filled_lexemes (lexemes ts) bs → lexemes (filled ts (b ∷ bs)) ≡ filled_lexemes (lexemes ts) (b ∷ bs) →
        lexemes (if v then body ∷ filled ts bs else x ∷ filled ts (b ∷ bs))
        ≡ (if v then t.with_body x.lexeme b ∷ filled_lexemes (lexemes ts) bs else x.lexeme ∷ filled_lexemes (lexemes ts) (b ∷ bs))
    by true g h = ap (λ z. t.with_body x.lexeme b ∷ z) g
    by false g h = ap (λ z. x.lexeme ∷ z) h
