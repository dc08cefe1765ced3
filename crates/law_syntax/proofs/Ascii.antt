-- The machines take the same step at an ASCII character, or come to the same where an operator ends at once.
use Rattle.std.proofs.Common.{◌≡◌, ℕ, suc, ◌+◌, ◌<◌, Bool, true, false, cond, ◌==◌, ◌||◌, List, [], ◌∷◌, ◌++◌, refl, sym, ap, subst, ◌∙◌}
use Rattle.std.specs.Prelude.{Option, Some, None, Ok, Err}
use Rattle.std.proofs.lemmas.Bool.{eqb-true}
use Rattle.std.proofs.lemmas.Str.{encode_ascii, len_utf8_ascii}
use Rattle.std.specs.Char.{encode_utf8}
use Rattle.std.specs.Str.{encode_utf8_all, bytes_eq}
use Rattle.rc_model.specs.Syntax.Tokens as t
use Rattle.rc_model.specs.Syntax.Tokens.{Lexeme, Token, PendingHereDoc, Outcome}
use Rattle.rc_model.specs.Mirrors.Reading as r
use Rattle.rc_model.specs.Mirrors.Reading.{LexerState, AfterCharacter, goes, emit, bare_here, without_here, begin_line, bare, follow}
use Rattle.law_syntax.proofs.Steps.{join_nil, follow_emit}
use Rattle.law_syntax.proofs.Operators.{operated_run, LexemeEnds, operator_ends, plain_ends, same_due}
use Rattle.law_syntax.specs.ByteReading as b
use Rattle.law_syntax.specs.ByteReading.{after_byte}
use Rattle.rc_model.specs.declared.syntax.Place.{Place}
use Rattle.rc_model.specs.declared.syntax.Previous.{Previous}
use Rattle.rc_model.specs.declared.syntax.Class.{Class}
use Rattle.rc_model.specs.declared.syntax.Previous.TheVariants as previous
use Rattle.rc_model.specs.declared.syntax.Class.TheVariants as class

-- a text is read as its bytes are, from each state
abbrev pub Reads : List ℕ → Type 0
Reads cs = (s : LexerState) (due : List PendingHereDoc) (p : Place) → b.run s due p (encode_utf8_all cs) ≡ r.run s due p cs

-- what comes of a step of each machine, with these characters after it
abbrev pub by_bytes : Place → List ℕ → AfterCharacter → Outcome
by_bytes p cs x = follow x (λ s' due'. b.run s' due' p (encode_utf8_all cs))

abbrev pub by_chars : Place → List ℕ → AfterCharacter → Outcome
by_chars p cs x = follow x (λ s' due'. r.run s' due' p cs)

pub same_step : (p p' : Place) (cs : List ℕ) (x y : AfterCharacter) → Reads cs → p ≡ p' → x ≡ y → by_bytes p cs x ≡ by_chars p' cs y
same_step p p' cs x y h e f = ap (λ z. by_bytes z cs x) e ∙ by x ∙ ap (by_chars p' cs) f
  where
    by : (z : AfterCharacter) → by_bytes p' cs z ≡ by_chars p' cs z
    by (Ok z) = ap (t.join z.0 z.1) (h z.2 z.3 p')
    by (Err z) = refl

pub same_emit : (p p' : Place) (cs : List ℕ) (ts : List Token) (x y : AfterCharacter) → by_bytes p cs x ≡ by_chars p' cs y → by_bytes p cs (emit ts x) ≡ by_chars p' cs (emit ts y)
same_emit p p' cs ts x y e =
    follow_emit ts x (λ s' due'. b.run s' due' p (encode_utf8_all cs)) ∙ ap (t.join ts []) e ∙ sym (follow_emit ts y (λ s' due'. r.run s' due' p' cs))

pub apart : (prev : Previous) → t.awaits_mark (without_here prev) ≡ false
apart (previous.Here begin' end) = refl
apart prev = refl

-- an operator that nothing goes on from ends whatever comes
abbrev EndsAtOnce : ℕ → Type 0
EndsAtOnce c = (prev : Previous) (due : List PendingHereDoc) (p p' : Place) (cs : List ℕ) → t.awaits_mark prev ≡ false →
    r.run (r.Operator prev [] p (c ∷ [])) due p' cs
    ≡ t.join (t.tokens_of prev (t.meant prev [] (b.alone c)) p p') [] (r.run (r.Between (t.after_token prev (t.meant prev [] (b.alone c)))) due p' cs)

none_goes_on : (c : ℕ) (cs : List ℕ) → ((d : ℕ) → t.begins_operator (c ∷ d ∷ []) ≡ false) → t.goes_on (c ∷ []) cs ≡ false
none_goes_on c [] h = refl
none_goes_on c (d ∷ cs) h = h d

-- what is neither a `$` nor a `<<`
abbrev is_plain : Lexeme → Bool
is_plain t.Dollar = false
is_plain t.DollarCount = false
is_plain t.DollarFlat = false
is_plain t.BareHere = false
is_plain _ = true

meant_any : (prev : Previous) (rest : List ℕ) (l : Lexeme) → is_plain l ≡ true → t.meant prev rest l ≡ t.meant prev [] l
meant_any previous.Name rest t.Dollar h = absurd cc
meant_any prev rest t.Dollar h = absurd cc
meant_any previous.Name rest t.DollarCount h = absurd cc
meant_any prev rest t.DollarCount h = absurd cc
meant_any previous.Name rest t.DollarFlat h = absurd cc
meant_any prev rest t.DollarFlat h = absurd cc
meant_any previous.Name rest t.LeftParen h = refl
meant_any previous.Name rest l h = refl
meant_any prev rest t.LeftParen h = refl
meant_any prev rest l h = refl

lexeme_at : (c : ℕ) (l : Lexeme) → t.operator (c ∷ []) ≡ Some l → b.alone c ≡ l → ((d : ℕ) → t.begins_operator (c ∷ d ∷ []) ≡ false) → is_plain l ≡ true →
    ((prev : Previous) (q : Place) (due : List PendingHereDoc) (p : Place) (rest : List ℕ) → t.awaits_mark prev ≡ false →
    LexemeEnds prev (t.meant prev rest l) q due p rest (operated_run prev [] q (Some l) due p rest)) → EndsAtOnce c
lexeme_at c l o e g h x prev due p p' cs a =
    let m : t.meant prev cs l ≡ t.meant prev [] (b.alone c) = meant_any prev cs l h ∙ ap (t.meant prev []) (sym e) in
    operator_ends prev [] p (c ∷ []) due p' cs (none_goes_on c cs g)
    ∙ ap (λ z. operated_run prev [] p z due p' cs) o
    ∙ x prev p due p' cs a
    ∙ ap (λ z. t.join (t.tokens_of prev z p p') [] (r.run (r.Between (t.after_token prev z)) (t.pending_after prev z due) p' cs)) m
    ∙ ap (λ z. t.join (t.tokens_of prev (t.meant prev [] (b.alone c)) p p') [] (r.run (r.Between (t.after_token prev (t.meant prev [] (b.alone c)))) z p' cs))
    (same_due prev (t.meant prev [] (b.alone c)) due a)

at_once_known : (c n : ℕ) → (c == n) ≡ true → EndsAtOnce n → EndsAtOnce c
at_once_known c n e h = subst (λ z. EndsAtOnce z) (sym (eqb-true c n e)) h

pub ends_at_once : (c : ℕ) → b.is_alone c ≡ true → EndsAtOnce c
ends_at_once c h = by (c == 59) (c == 94) (c == 61) (c == 40) (c == 41) (c == 123) (c == 125) (c == 96) refl refl refl refl refl refl refl refl h
  where
    by : (x1 x2 x3 x4 x5 x6 x7 x8 : Bool) → (c == 59) ≡ x1 → (c == 94) ≡ x2 → (c == 61) ≡ x3 → (c == 40) ≡ x4 → (c == 41) ≡ x5 → (c == 123) ≡ x6 →
        (c == 125) ≡ x7 → (c == 96) ≡ x8 → (x1 || x2 || x3 || x4 || x5 || x6 || x7 || x8) ≡ true → EndsAtOnce c
    by true x2 x3 x4 x5 x6 x7 x8 e1 e2 e3 e4 e5 e6 e7 e8 g =
        at_once_known c 59 e1 (lexeme_at 59 t.Semicolon refl refl (λ d. refl) refl (λ prev q due p rest a. plain_ends prev q t.Semicolon due p rest a refl))
    by false true x3 x4 x5 x6 x7 x8 e1 e2 e3 e4 e5 e6 e7 e8 g =
        at_once_known c 94 e2 (lexeme_at 94 t.Caret refl refl (λ d. refl) refl (λ prev q due p rest a. plain_ends prev q t.Caret due p rest a refl))
    by false false true x4 x5 x6 x7 x8 e1 e2 e3 e4 e5 e6 e7 e8 g =
        at_once_known c 61 e3 (lexeme_at 61 t.Equals refl refl (λ d. refl) refl (λ prev q due p rest a. plain_ends prev q t.Equals due p rest a refl))
    by false false false true x5 x6 x7 x8 e1 e2 e3 e4 e5 e6 e7 e8 g =
        at_once_known c 40 e4 (lexeme_at 40 t.LeftParen refl refl (λ d. refl) refl (λ prev q due p rest a. plain_ends prev q t.LeftParen due p rest a refl))
    by false false false false true x6 x7 x8 e1 e2 e3 e4 e5 e6 e7 e8 g =
        at_once_known c 41 e5 (lexeme_at 41 t.RightParen refl refl (λ d. refl) refl (λ prev q due p rest a. plain_ends prev q t.RightParen due p rest a refl))
    by false false false false false true x7 x8 e1 e2 e3 e4 e5 e6 e7 e8 g =
        at_once_known c 123 e6 (lexeme_at 123 t.LeftBrace refl refl (λ d. refl) refl (λ prev q due p rest a. plain_ends prev q t.LeftBrace due p rest a refl))
    by false false false false false false true x8 e1 e2 e3 e4 e5 e6 e7 e8 g =
        at_once_known c 125 e7 (lexeme_at 125 t.RightBrace refl refl (λ d. refl) refl (λ prev q due p rest a. plain_ends prev q t.RightBrace due p rest a refl))
    by false false false false false false false true e1 e2 e3 e4 e5 e6 e7 e8 g =
        at_once_known c 96 e8 (lexeme_at 96 t.Backquote refl refl (λ d. refl) refl (λ prev q due p rest a. plain_ends prev q t.Backquote due p rest a refl))
    by false false false false false false false false e1 e2 e3 e4 e5 e6 e7 e8 g = absurd cc

-- an ASCII character is its one byte
pub record IsAscii (c : ℕ) : Type 0 where
  pub byte : encode_utf8 c ≡ c ∷ []
  pub place : (p : Place) → after_byte p c ≡ t.after_char p c

pub ascii : (c : ℕ) → c < 128 → IsAscii c
ascii c h = record {
  byte = encode_ascii c h;
  place = λ p. ap (λ n. record { byte = p.byte + n; line = cond (c == 10) (suc p.line) p.line }) (sym (len_utf8_ascii c h));
}

-- the two machines come to the same at a character
abbrev pub SameAt : List ℕ → Place → ℕ → AfterCharacter → AfterCharacter → Type 0
SameAt cs p c x y = by_bytes (after_byte p c) cs x ≡ by_chars (t.after_char p c) cs y

same_at : (cs : List ℕ) (p : Place) (c : ℕ) (x y : AfterCharacter) → Reads cs → IsAscii c → x ≡ y → SameAt cs p c x y
same_at cs p c x y h a e = same_step (after_byte p c) (t.after_char p c) cs x y h (a.place p) e

-- both go on alike
goes_at : (cs : List ℕ) (p : Place) (c : ℕ) (ts : List Token) (s : LexerState) (due : List PendingHereDoc) → Reads cs → IsAscii c → SameAt cs p c (goes ts s due) (goes ts s due)
goes_at cs p c ts s due h a = same_at cs p c (goes ts s due) (goes ts s due) h a refl

operator_same : (cs : List ℕ) (prev : Previous) (due : List PendingHereDoc) (p : Place) (c : ℕ) (v : Bool) → Reads cs → IsAscii c → t.awaits_mark prev ≡ false →
    b.is_alone c ≡ v →
    by_bytes (after_byte p c) cs (cond v (b.at_once prev (t.meant prev [] (b.alone c)) due p c) (goes [] (r.Operator prev [] p (c ∷ [])) due))
    ≡ r.run (r.Operator prev [] p (c ∷ [])) due (t.after_char p c) cs
operator_same cs prev due p c false h a m e = same_at cs p c _ (goes [] (r.Operator prev [] p (c ∷ [])) due) h a refl ∙ join_nil (r.run (r.Operator prev [] p (c ∷ [])) due (t.after_char p c) cs)
operator_same cs prev due p c true h a m e =
    let l = t.meant prev [] (b.alone c) in
    ap (t.join (t.tokens_of prev l p (after_byte p c)) []) (h (r.Between (t.after_token prev l)) due (after_byte p c))
    ∙ sym (ends_at_once c e prev due p (after_byte p c) cs m)
    ∙ ap (λ z. r.run (r.Operator prev [] p (c ∷ [])) due z cs) (a.place p)

begin_same : (cs : List ℕ) (prev : Previous) (due : List PendingHereDoc) (p : Place) (c : ℕ) (k : Class) → Reads cs → IsAscii c →
    SameAt cs p c (b.begin prev due p c k) (r.begin prev due p c k)
begin_same cs prev due p c class.Operates h a =
    follow_emit (bare_here prev) (b.begin_operator (without_here prev) due p c) (λ s' due'. b.run s' due' (after_byte p c) (encode_utf8_all cs))
    ∙ ap (t.join (bare_here prev) []) (operator_same cs (without_here prev) due p c (b.is_alone c) h a (apart prev) refl)
begin_same cs prev due p c class.Blank h a = goes_at cs p c [] (r.Between (t.after_blank prev)) due h a
begin_same cs prev due p c class.LineEnd h a = same_at cs p c _ _ h a (ap (λ z. begin_line (bare_here prev ++ t.token t.Newline p z ∷ []) [] due) (a.place p))
begin_same cs prev due p c class.Hash h a = goes_at cs p c (bare_here prev) r.Comment due h a
begin_same cs prev due p c class.Quote h a = same_at cs p c _ _ h a (ap (λ z. goes [] (r.Quoted prev p z) due) (sym a.byte))
begin_same cs prev due p c class.Backslash h a = goes_at cs p c [] (r.Backslash prev p) due h a
begin_same cs prev due p c class.Ordinary h a =
    same_at cs p c _ _ h a (ap (λ z. goes [] (cond (t.begins_name prev c) (r.Name p z) (r.Word prev p z)) due) (sym a.byte))

ends_same : (cs : List ℕ) (prev : Previous) (l : Lexeme) (q : Place) (due : List PendingHereDoc) (p : Place) (c : ℕ) (k : Class) → Reads cs → IsAscii c →
    SameAt cs p c (b.ends prev l q due p c k) (r.ends prev l q due p c k)
ends_same cs prev l q due p c k h a =
    same_emit (after_byte p c) (t.after_char p c) cs (t.tokens_of prev l q p) _ _ (begin_same cs (t.after_token prev l) (t.pending_after prev l due) p c k h a)

in_word_same : (cs : List ℕ) (prev : Previous) (q : Place) (text : List ℕ) (due : List PendingHereDoc) (p : Place) (c : ℕ) (k : Class) → Reads cs → IsAscii c →
    SameAt cs p c (b.in_word prev q text due p c k) (r.in_word prev q text due p c k)
in_word_same cs prev q text due p c class.Ordinary h a = same_at cs p c _ _ h a (ap (λ z. goes [] (r.Word prev q (text ++ z)) due) (sym a.byte))
in_word_same cs prev q text due p c class.Backslash h a = goes_at cs p c [] (r.WordBackslash prev q text p) due h a
in_word_same cs prev q text due p c k h a = ends_same cs prev (t.Word text) q due p c k h a

dollars_same : (cs : List ℕ) (dollars : List Token) (due : List PendingHereDoc) (p : Place) (c : ℕ) (k : Class) (v w : Bool) → Reads cs → IsAscii c →
    SameAt cs p c
    (cond v (emit dollars (b.begin previous.Dollar due p c k)) (cond w (goes [] (r.Operator previous.Dollar dollars p (c ∷ [])) due) (emit (bare dollars) (b.begin previous.Apart due p c k))))
    (cond v (emit dollars (r.begin previous.Dollar due p c k)) (cond w (goes [] (r.Operator previous.Dollar dollars p (c ∷ [])) due) (emit (bare dollars) (r.begin previous.Apart due p c k))))
dollars_same cs dollars due p c k true w h a = same_emit (after_byte p c) (t.after_char p c) cs dollars _ _ (begin_same cs previous.Dollar due p c k h a)
dollars_same cs dollars due p c k false true h a = goes_at cs p c [] (r.Operator previous.Dollar dollars p (c ∷ [])) due h a
dollars_same cs dollars due p c k false false h a = same_emit (after_byte p c) (t.after_char p c) cs (bare dollars) _ _ (begin_same cs previous.Apart due p c k h a)

after_same : (cs : List ℕ) (dollars : List Token) (due : List PendingHereDoc) (p : Place) (c : ℕ) (k : Class) → Reads cs → IsAscii c →
    SameAt cs p c (b.after_dollars dollars due p c k) (r.after_dollars dollars due p c k)
after_same cs dollars due p c k h a = dollars_same cs dollars due p c k (t.is_name_char c || (c == 39)) (c == 36) h a

end_same : (cs : List ℕ) (prev : Previous) (dollars : List Token) (q : Place) (o : Option Lexeme) (due : List PendingHereDoc) (p : Place) (c : ℕ) (k : Class) → Reads cs → IsAscii c →
    SameAt cs p c (b.end_operator prev dollars q o due p c k) (r.end_operator prev dollars q o due p c k)
end_same cs prev dollars q None due p c k h a = refl
end_same cs prev dollars q (Some t.BareHere) due p c k h a = begin_same cs (previous.Here q p) due p c k h a
end_same cs prev dollars q (Some t.Dollar) due p c k h a =
    same_emit (after_byte p c) (t.after_char p c) cs (t.caret prev t.Dollar q) _ _ (after_same cs (dollars ++ t.token t.Dollar q p ∷ []) due p c k h a)
end_same cs prev dollars q (Some t.DollarCount) due p c k h a =
    same_emit (after_byte p c) (t.after_char p c) cs (t.caret prev t.Dollar q ++ bare dollars) _ _ (after_same cs (t.token t.DollarCount q p ∷ []) due p c k h a)
end_same cs prev dollars q (Some t.DollarFlat) due p c k h a =
    same_emit (after_byte p c) (t.after_char p c) cs (t.caret prev t.Dollar q ++ bare dollars) _ _ (after_same cs (t.token t.DollarFlat q p ∷ []) due p c k h a)
end_same cs prev dollars q (Some l) due p c k h a = ends_same cs prev (t.meant prev [] l) q due p c k h a

operating_same : (cs : List ℕ) (prev : Previous) (dollars : List Token) (q : Place) (xs : List ℕ) (due : List PendingHereDoc) (p : Place) (c : ℕ) (k : Class) (v : Bool) → Reads cs → IsAscii c →
    SameAt cs p c (cond v (goes [] (r.Operator prev dollars q (xs ++ c ∷ [])) due) (b.end_operator prev dollars q (t.operator xs) due p c k))
    (cond v (goes [] (r.Operator prev dollars q (xs ++ c ∷ [])) due) (r.end_operator prev dollars q (t.operator xs) due p c k))
operating_same cs prev dollars q xs due p c k true h a = goes_at cs p c [] (r.Operator prev dollars q (xs ++ c ∷ [])) due h a
operating_same cs prev dollars q xs due p c k false h a = end_same cs prev dollars q (t.operator xs) due p c k h a

name_same : (cs : List ℕ) (q : Place) (text : List ℕ) (due : List PendingHereDoc) (p : Place) (c : ℕ) (k : Class) (v : Bool) → Reads cs → IsAscii c →
    SameAt cs p c (cond v (goes [] (r.Name q (text ++ c ∷ [])) due) (b.ends previous.Dollar (t.Name text) q due p c k))
    (cond v (goes [] (r.Name q (text ++ encode_utf8 c)) due) (r.ends previous.Dollar (t.Name text) q due p c k))
name_same cs q text due p c k true h a = same_at cs p c _ _ h a (ap (λ z. goes [] (r.Name q (text ++ z)) due) (sym a.byte))
name_same cs q text due p c k false h a = ends_same cs previous.Dollar (t.Name text) q due p c k h a

pub step_same : (cs : List ℕ) (s : LexerState) (due : List PendingHereDoc) (p : Place) (c : ℕ) (k : Class) → Reads cs → IsAscii c →
    SameAt cs p c (b.step s due p c k) (r.step s due p c k)
step_same cs (r.Between prev) due p c k h a = begin_same cs prev due p c k h a
step_same cs r.Comment due p c class.LineEnd h a = begin_same cs previous.Apart due p c class.LineEnd h a
step_same cs r.Comment due p c k h a = goes_at cs p c [] r.Comment due h a
step_same cs (r.Backslash prev q) due p c class.LineEnd h a = goes_at cs p c [] (r.Between (t.after_blank prev)) due h a
step_same cs (r.Backslash prev q) due p c k h a = in_word_same cs prev q (92 ∷ []) due p c k h a
step_same cs (r.WordBackslash prev q text end) due p c class.LineEnd h a =
    goes_at cs p c (t.tokens_of prev (t.Word text) q end) (r.Between previous.Apart) (t.pending_after prev (t.Word text) due) h a
step_same cs (r.WordBackslash prev q text end) due p c k h a = in_word_same cs prev q (text ++ 92 ∷ []) due p c k h a
step_same cs (r.Word prev q text) due p c k h a = in_word_same cs prev q text due p c k h a
step_same cs (r.Name q text) due p c k h a = name_same cs q text due p c k (t.is_name_char c) h a
step_same cs (r.Quoted prev q text) due p c class.Quote h a = same_at cs p c _ _ h a (ap (λ z. goes [] (r.Closed prev q (text ++ z)) due) (sym a.byte))
step_same cs (r.Quoted prev q text) due p c k h a = same_at cs p c _ _ h a (ap (λ z. goes [] (r.Quoted prev q (text ++ z)) due) (sym a.byte))
step_same cs (r.Closed prev q text) due p c class.Quote h a = same_at cs p c _ _ h a (ap (λ z. goes [] (r.Quoted prev q (text ++ z)) due) (sym a.byte))
step_same cs (r.Closed prev q text) due p c k h a = ends_same cs prev (t.Quoted (t.unquoted_text text)) q due p c k h a
step_same cs (r.Operator prev dollars q xs) due p c k h a = operating_same cs prev dollars q xs due p c k (t.begins_operator (xs ++ c ∷ [])) h a
step_same cs (r.Body d body line) due p c class.LineEnd h a =
    same_at cs p c _ _ h a (ap (λ z. cond (bytes_eq line d.mark) (begin_line [] (body ∷ []) due) (goes [] (r.Body d (body ++ line ++ z) []) due)) (sym a.byte))
step_same cs (r.Body d body line) due p c k h a = same_at cs p c _ _ h a (ap (λ z. goes [] (r.Body d body (line ++ z)) due) (sym a.byte))
