-- Where a text ends with a newline, nothing that has begun goes on after it, unless the text isn't complete.
use Rattle.std.proofs.Common.{◌≡◌, ℕ, Bool, true, false, not, ◌==◌, if◌then◌else◌, List, [], ◌∷◌, ◌++◌, ◌⊎◌, inl, inr, Some, None, refl, arith}
use Rattle.std.proofs.lemmas.Bool.Decides.{nat_tests}
use Rattle.std.specs.Prelude.{Option, Ok, Err, ◌&&◌}
use Rattle.std.specs.List.{list_all, list_any}
use Rattle.std.specs.Str.{bytes_eq}
use Rattle.std.proofs.lemmas.Bool.{and_parts}
use Rattle.rc_model.specs.Syntax.Text.{begins_with}
use Rattle.rc_model.specs.Syntax.Tokens as t
use Rattle.rc_model.specs.Syntax.Tokens.{Lexeme, Token, PendingHereDoc, Outcome}
use Rattle.rc_model.specs.Mirrors.Reading as r
use Rattle.rc_model.specs.Mirrors.Reading.{LexerState, AfterCharacter, emit, bare_here, begin_line, closed, finish}
use Rattle.law_syntax.specs.ByteReading as bytes
use Rattle.law_syntax.specs.ByteReading.{after_byte, put, chain, through}
use Rattle.rc_model.specs.declared.syntax.Place.{Place}
use Rattle.rc_model.specs.declared.syntax.Previous.{Previous}
use Rattle.rc_model.specs.declared.syntax.Previous.TheVariants as previous
use Rattle.rc_model.specs.declared.syntax.Class.TheVariants as class

-- the end of a text in this state: nothing is open, or a `<<` without a mark comes last, or it is a fault
abbrev pub Settles : LexerState → List PendingHereDoc → Outcome → Type 0
Settles s due (Ok x) = ((s ≡ r.Between previous.Apart) × (due ≡ []) × (x.0 ≡ []) × (x.1 ≡ [])) ⊎ ((u : Token) × (x.0 ≡ u ∷ []) × (u.lexeme ≡ t.BareHere))
Settles s due (Err f) = Unit {0}

-- the state after a newline
abbrev pub IsSettled : AfterCharacter → Type 0
IsSettled (Ok x) = (q : Place) → Settles x.2 x.3 (finish x.2 x.3 q)
IsSettled (Err f) = Unit {0}

settled_emit : (ts : List Token) (x : AfterCharacter) → IsSettled x → IsSettled (emit ts x)
settled_emit ts (Ok x) h = h
settled_emit ts (Err f) h = h

settled_put : (ts : List Token) (bodies : List (List ℕ)) (x : AfterCharacter) → IsSettled x → IsSettled (put ts bodies x)
settled_put ts bodies (Ok x) h = h
settled_put ts bodies (Err f) h = h

begins_line : (ts : List Token) (bodies : List (List ℕ)) (due : List PendingHereDoc) → IsSettled (begin_line ts bodies due)
begins_line ts bodies [] = λ q. inl (refl, refl, refl, refl)
begins_line ts bodies (d ∷ due) = λ q. tt

apart_settled : (due : List PendingHereDoc) → Settles (r.Between previous.Apart) due (closed [] [] due)
apart_settled [] = inl (refl, refl, refl, refl)
apart_settled (d ∷ due) = tt

here_settled : (begin end : Place) (due : List PendingHereDoc) → Settles (r.Between (previous.Here begin end)) due (closed (t.token t.BareHere begin end ∷ []) [] due)
here_settled begin end [] = inr (t.token t.BareHere begin end, refl, refl)
here_settled begin end (d ∷ due) = tt

blank_settled : (prev : Previous) (due : List PendingHereDoc) (q : Place) → Settles (r.Between (t.after_blank prev)) due (finish (r.Between (t.after_blank prev)) due q)
blank_settled (previous.Here begin end) due q = here_settled begin end due
blank_settled prev due q = apart_settled due

-- ** no operator has a newline

no_line_with : (cs xs : List ℕ) → list_all (λ x. not (x == 10)) xs ≡ true → begins_with (cs ++ 10 ∷ []) xs ≡ false
no_line_with [] [] h = refl
no_line_with (c ∷ cs) [] h = refl
no_line_with [] (x ∷ xs) h = grind (arith, nat_tests)
no_line_with (c ∷ cs) (x ∷ xs) h = by (c == x) (no_line_with cs xs (and_parts (not (x == 10)) (list_all (λ y. not (y == 10)) xs) h).1)
  where
    by : (b : Bool) → begins_with (cs ++ 10 ∷ []) xs ≡ false → (b && begins_with (cs ++ 10 ∷ []) xs) ≡ false
    by true k = k
    by false k = refl

no_operator_with : (cs : List ℕ) (os : List (List ℕ × Lexeme)) → list_all (λ o. list_all (λ x. not (x == 10)) o.0) os ≡ true → list_any (λ o. begins_with (cs ++ 10 ∷ []) o.0) os ≡ false
no_operator_with cs [] h = refl
no_operator_with cs (o ∷ os) h =
    let p = and_parts (list_all (λ x. not (x == 10)) o.0) (list_all (λ o. list_all (λ x. not (x == 10)) o.0) os) h in
    rw (no_line_with cs o.0 p.0) (no_operator_with cs os p.1)

no_operator : (cs : List ℕ) → t.begins_operator (cs ++ 10 ∷ []) ≡ false
no_operator cs = no_operator_with cs t.operators refl

-- ** a newline in each state

ended : (prev : Previous) (m : Lexeme) (q : Place) (due : List PendingHereDoc) (p : Place) → IsSettled (bytes.ends prev m q due p 10 class.LineEnd)
ended prev m q due p =
    settled_emit (t.tokens_of prev m q p) (begin_line (bare_here (t.after_token prev m) ++ t.token t.Newline p (after_byte p 10) ∷ []) [] (t.pending_after prev m due)) (begins_line _ [] (t.pending_after prev m due))

begun : (prev : Previous) (due : List PendingHereDoc) (p : Place) → IsSettled (bytes.begin prev due p 10 class.LineEnd)
begun prev due p = begins_line _ [] due

operator_ended : (prev : Previous) (dollars : List Token) (q : Place) (o : Option Lexeme) (due : List PendingHereDoc) (p : Place) → IsSettled (bytes.end_operator prev dollars q o due p 10 class.LineEnd)
operator_ended prev dollars q None due p = tt
operator_ended prev dollars q (Some t.BareHere) due p = begun (previous.Here q p) due p
operator_ended prev dollars q (Some t.Dollar) due p =
    settled_emit (t.caret prev t.Dollar q) (bytes.after_dollars (dollars ++ t.token t.Dollar q p ∷ []) due p 10 class.LineEnd) (settled_emit (r.bare (dollars ++ t.token t.Dollar q p ∷ [])) (bytes.begin previous.Apart due p 10 class.LineEnd) (begun previous.Apart due p))
operator_ended prev dollars q (Some t.DollarCount) due p =
    settled_emit (t.caret prev t.Dollar q ++ r.bare dollars) (bytes.after_dollars (t.token t.DollarCount q p ∷ []) due p 10 class.LineEnd) (settled_emit (r.bare (t.token t.DollarCount q p ∷ [])) (bytes.begin previous.Apart due p 10 class.LineEnd) (begun previous.Apart due p))
operator_ended prev dollars q (Some t.DollarFlat) due p =
    settled_emit (t.caret prev t.Dollar q ++ r.bare dollars) (bytes.after_dollars (t.token t.DollarFlat q p ∷ []) due p 10 class.LineEnd) (settled_emit (r.bare (t.token t.DollarFlat q p ∷ [])) (bytes.begin previous.Apart due p 10 class.LineEnd) (begun previous.Apart due p))
operator_ended prev dollars q (Some m) due p = ended prev (t.meant prev [] m) q due p

body_line : (b : Bool) (d : PendingHereDoc) (whole body : List ℕ) (due : List PendingHereDoc) →
    IsSettled (if b then begin_line [] (body ∷ []) due else r.goes [] (r.Body d whole []) due)
body_line true d whole body due = begins_line [] (body ∷ []) due
body_line false d whole body due = λ q. tt

line_step : (s : LexerState) (due : List PendingHereDoc) (p : Place) → IsSettled (bytes.step s due p 10 class.LineEnd)
line_step (r.Between prev) due p = begun prev due p
line_step r.Comment due p = begun previous.Apart due p
line_step (r.Backslash prev q) due p = blank_settled prev due
line_step (r.WordBackslash prev q text end) due p = λ place. apart_settled (t.pending_after prev (t.Word text) due)
line_step (r.Word prev q text) due p = ended prev (t.Word text) q due p
line_step (r.Name q text) due p = ended previous.Dollar (t.Name text) q due p
line_step (r.Quoted prev q text) due p = λ place. tt
line_step (r.Closed prev q text) due p = ended prev (t.Quoted (t.unquoted_text text)) q due p
line_step (r.Operator prev dollars q cs) due p =
    otherwise (t.begins_operator (cs ++ 10 ∷ [])) _ _ (no_operator cs) (operator_ended prev dollars q (t.operator cs) due p)
  where
    otherwise : (b : Bool) (x y : AfterCharacter) → b ≡ false → IsSettled y → IsSettled (if b then x else y)
    otherwise b x y h k = rw h k
line_step (r.Body d body line) due p = body_line (bytes_eq line d.mark) d (body ++ line ++ 10 ∷ []) body due

-- after a text that ends with a newline
settled_chain : (x : AfterCharacter) (g : LexerState → List PendingHereDoc → AfterCharacter) → ((s : LexerState) (due : List PendingHereDoc) → IsSettled (g s due)) → IsSettled (chain x g)
settled_chain (Ok x) g h = settled_put x.0 x.1 (g x.2 x.3) (h x.2 x.3)
settled_chain (Err f) g h = tt

settled_last : (x : AfterCharacter) → IsSettled x → IsSettled (chain x (λ s due. r.goes [] s due))
settled_last (Ok x) h = h
settled_last (Err f) h = h

pub line_through : (front : List ℕ) (s : LexerState) (due : List PendingHereDoc) (p : Place) → IsSettled (through s due p (front ++ 10 ∷ []))
line_through [] s due p = settled_last (bytes.step s due p 10 class.LineEnd) (line_step s due p)
line_through (b ∷ bs) s due p = settled_chain (bytes.step s due p b (t.class_of b)) (λ s' due'. through s' due' (after_byte p b) (bs ++ 10 ∷ [])) (λ s' due'. line_through bs s' due' (after_byte p b))
