-- The machines come to the same at a character that is not ASCII: its first byte goes to a state that its other bytes only
-- lengthen.
use Rattle.std.proofs.Common.{◌≡◌, ℕ, suc, ◌+◌, ◌≤◌, false, cond, ◌==◌, ◌||◌, List, [], ◌∷◌, ◌++◌, length, refl, sym, ap, ◌∙◌, arith, append_assoc}
use Rattle.std.specs.Prelude.{Option, Some, None}
use Rattle.std.proofs.lemmas.List.{append-nil}
use Rattle.std.proofs.lemmas.Str.{length-encode}
use Rattle.std.specs.Char.{encode_utf8, len_utf8}
use Rattle.std.specs.Str.{encode_utf8_all}
use Rattle.rc_model.specs.Syntax.Tokens as t
use Rattle.rc_model.specs.Syntax.Tokens.{Lexeme, Token, PendingHereDoc, Outcome}
use Rattle.rc_model.specs.Mirrors.Reading as r
use Rattle.rc_model.specs.Mirrors.Reading.{LexerState, AfterCharacter, goes, emit, bare, follow}
use Rattle.law_syntax.proofs.Steps.{join_nil, follow_emit}
use Rattle.law_syntax.specs.ByteReading as b
use Rattle.law_syntax.specs.ByteReading.{after_byte, after_bytes}
use Rattle.law_syntax.proofs.Ascii.{Reads}
use Rattle.law_syntax.proofs.High.{Highs, one, high_class, high_no_name, high_begins_no_name, high_begins_none, not_equal, after_high, same_place}
use Rattle.rc_model.specs.declared.syntax.Place.{Place}
use Rattle.rc_model.specs.declared.syntax.Previous.{Previous}
use Rattle.rc_model.specs.declared.syntax.Previous.TheVariants as previous
use Rattle.rc_model.specs.declared.syntax.Class.TheVariants as class

-- states that a byte that is not ASCII only lengthens
pub data Grows : (List ℕ → LexerState) → Type 0 where
  word : (prev : Previous) (q : Place) (text : List ℕ) → Grows (λ xs. r.Word prev q (text ++ xs))
  word_begins : (prev : Previous) (q : Place) → Grows (λ xs. r.Word prev q xs)
  quoted : (prev : Previous) (q : Place) (text : List ℕ) → Grows (λ xs. r.Quoted prev q (text ++ xs))
  body : (d : PendingHereDoc) (body line : List ℕ) → Grows (λ xs. r.Body d body (line ++ xs))
  comment : Grows (λ xs. r.Comment)

longer : (w : List ℕ → LexerState) → Grows w → (xs : List ℕ) (due : List PendingHereDoc) (p : Place) (c : ℕ) →
    b.step (w xs) due p c class.Ordinary ≡ goes [] (w (xs ++ c ∷ [])) due
longer w (word prev q text) xs due p c = ap (λ z. goes [] (r.Word prev q z) due) (append_assoc text xs (c ∷ []))
longer w (word_begins prev q) xs due p c = refl
longer w (quoted prev q text) xs due p c = ap (λ z. goes [] (r.Quoted prev q z) due) (append_assoc text xs (c ∷ []))
longer w (body d body' line) xs due p c = ap (λ z. goes [] (r.Body d body' z) due) (append_assoc line xs (c ∷ []))
longer w comment xs due p c = refl

-- bytes that are not ASCII
pub lengthened : (w : List ℕ → LexerState) → Grows w → (xs bs rest : List ℕ) (due : List PendingHereDoc) (p : Place) → Highs bs →
    b.run (w xs) due p (bs ++ rest) ≡ b.run (w (xs ++ bs)) due (after_bytes p bs) rest
lengthened w g xs [] rest due p h = ap (λ z. b.run (w z) due p rest) (sym (append-nil xs))
lengthened w g xs (c ∷ bs) rest due p (one c' bs' h hs) =
    let then' : LexerState → List PendingHereDoc → Outcome = λ s' due'. b.run s' due' (after_byte p c) (bs ++ rest) in
    ap (λ k. follow (b.step (w xs) due p c k) then') (high_class c h)
    ∙ ap (λ z. follow z then') (longer w g xs due p c)
    ∙ join_nil (b.run (w (xs ++ c ∷ [])) due (after_byte p c) (bs ++ rest))
    ∙ lengthened w g (xs ++ c ∷ []) bs rest due (after_byte p c) hs
    ∙ ap (λ z. b.run (w z) due (after_bytes (after_byte p c) bs) rest) (append_assoc xs (c ∷ []) bs)

-- a character whose first byte and others are these
abbrev pub SameHigh : (cs : List ℕ) (p : Place) (c first : ℕ) (more : List ℕ) → AfterCharacter → AfterCharacter → Type 0
SameHigh cs p c first more x y =
    follow x (λ s' due'. b.run s' due' (after_byte p first) (more ++ encode_utf8_all cs)) ≡ follow y (λ s' due'. r.run s' due' (t.after_char p c) cs)

-- what is known of it
pub record IsHigh (cs : List ℕ) (c first : ℕ) (more : List ℕ) : Type 0 where
  pub reads : Reads cs
  pub are : encode_utf8 c ≡ first ∷ more
  pub high : 128 ≤ c
  pub first_high : 128 ≤ first
  pub highs : Highs more

place_after : (cs : List ℕ) (p : Place) (c first : ℕ) (more : List ℕ) → IsHigh cs c first more → after_bytes (after_byte p first) more ≡ t.after_char p c
place_after cs p c first more h =
    after_high (after_byte p first) more h.highs
    ∙ ap (λ v. record { byte = (p.byte + 1) + length more; line = cond v (suc p.line) p.line }) (not_equal first 10 (omega (arith, h.first_high)))
    ∙ same_place (record { byte = (p.byte + 1) + length more; line = p.line }) (record { byte = p.byte + len_utf8 c; line = p.line })
    (omega (arith, ap length h.are, length-encode c)) refl
    ∙ ap (λ v. record { byte = p.byte + len_utf8 c; line = cond v (suc p.line) p.line }) (sym (not_equal c 10 (omega (arith, h.high))))

high_goes : (cs : List ℕ) (p : Place) (c first : ℕ) (more : List ℕ) → IsHigh cs c first more → (w : List ℕ → LexerState) → Grows w → (due : List PendingHereDoc) →
    SameHigh cs p c first more (goes [] (w (first ∷ [])) due) (goes [] (w (encode_utf8 c)) due)
high_goes cs p c first more h w g due =
    ap (t.join [] [])
    (lengthened w g (first ∷ []) more (encode_utf8_all cs) due (after_byte p first) h.highs
    ∙ ap (λ z. b.run (w z) due (after_bytes (after_byte p first) more) (encode_utf8_all cs)) (sym h.are)
    ∙ h.reads (w (encode_utf8 c)) due (after_bytes (after_byte p first) more)
    ∙ ap (λ z. r.run (w (encode_utf8 c)) due z cs) (place_after cs p c first more h))

high_emit : (cs : List ℕ) (p : Place) (c first : ℕ) (more : List ℕ) (ts : List Token) (x y : AfterCharacter) → SameHigh cs p c first more x y → SameHigh cs p c first more (emit ts x) (emit ts y)
high_emit cs p c first more ts x y e =
    follow_emit ts x (λ s' due'. b.run s' due' (after_byte p first) (more ++ encode_utf8_all cs)) ∙ ap (t.join ts []) e
    ∙ sym (follow_emit ts y (λ s' due'. r.run s' due' (t.after_char p c) cs))

-- by equal steps
high_along : (cs : List ℕ) (p : Place) (c first : ℕ) (more : List ℕ) (x x' y y' : AfterCharacter) → x' ≡ x → y' ≡ y → SameHigh cs p c first more x y → SameHigh cs p c first more x' y'
high_along cs p c first more x x' y y' e f s =
    ap (λ z. follow z (λ s' due'. b.run s' due' (after_byte p first) (more ++ encode_utf8_all cs))) e ∙ s
    ∙ sym (ap (λ z. follow z (λ s' due'. r.run s' due' (t.after_char p c) cs)) f)

high_begin : (cs : List ℕ) (prev : Previous) (due : List PendingHereDoc) (p : Place) (c first : ℕ) (more : List ℕ) → IsHigh cs c first more →
    SameHigh cs p c first more (b.begin prev due p first class.Ordinary) (r.begin prev due p c class.Ordinary)
high_begin cs prev due p c first more h =
    high_along cs p c first more (goes [] (r.Word prev p (first ∷ [])) due) (b.begin prev due p first class.Ordinary)
    (goes [] (r.Word prev p (encode_utf8 c)) due) (r.begin prev due p c class.Ordinary)
    (ap (λ v. goes [] (cond v (r.Name p (first ∷ [])) (r.Word prev p (first ∷ []))) due) (high_begins_no_name prev first h.first_high))
    (ap (λ v. goes [] (cond v (r.Name p (encode_utf8 c)) (r.Word prev p (encode_utf8 c))) due) (high_begins_no_name prev c h.high))
    (high_goes cs p c first more h (λ xs. r.Word prev p xs) (word_begins prev p) due)

high_ends : (cs : List ℕ) (prev : Previous) (l : Lexeme) (q : Place) (due : List PendingHereDoc) (p : Place) (c first : ℕ) (more : List ℕ) → IsHigh cs c first more →
    SameHigh cs p c first more (b.ends prev l q due p first class.Ordinary) (r.ends prev l q due p c class.Ordinary)
high_ends cs prev l q due p c first more h =
    high_emit cs p c first more (t.tokens_of prev l q p) (b.begin (t.after_token prev l) (t.pending_after prev l due) p first class.Ordinary)
    (r.begin (t.after_token prev l) (t.pending_after prev l due) p c class.Ordinary) (high_begin cs (t.after_token prev l) (t.pending_after prev l due) p c first more h)

high_dollars : (cs : List ℕ) (dollars : List Token) (due : List PendingHereDoc) (p : Place) (c first : ℕ) (more : List ℕ) → IsHigh cs c first more →
    SameHigh cs p c first more (b.after_dollars dollars due p first class.Ordinary) (r.after_dollars dollars due p c class.Ordinary)
high_dollars cs dollars due p c first more h =
    high_along cs p c first more (emit (bare dollars) (b.begin previous.Apart due p first class.Ordinary)) (b.after_dollars dollars due p first class.Ordinary)
    (emit (bare dollars) (r.begin previous.Apart due p c class.Ordinary)) (r.after_dollars dollars due p c class.Ordinary)
    (ap (λ v. cond v (emit dollars (b.begin previous.Dollar due p first class.Ordinary))
    (cond (first == 36) (goes [] (r.Operator previous.Dollar dollars p (first ∷ [])) due) (emit (bare dollars) (b.begin previous.Apart due p first class.Ordinary)))) (none first h.first_high)
    ∙ ap (λ v. cond v (goes [] (r.Operator previous.Dollar dollars p (first ∷ [])) due) (emit (bare dollars) (b.begin previous.Apart due p first class.Ordinary)))
    (not_equal first 36 (omega (arith, h.first_high))))
    (ap (λ v. cond v (emit dollars (r.begin previous.Dollar due p c class.Ordinary))
    (cond (c == 36) (goes [] (r.Operator previous.Dollar dollars p (c ∷ [])) due) (emit (bare dollars) (r.begin previous.Apart due p c class.Ordinary)))) (none c h.high)
    ∙ ap (λ v. cond v (goes [] (r.Operator previous.Dollar dollars p (c ∷ [])) due) (emit (bare dollars) (r.begin previous.Apart due p c class.Ordinary)))
    (not_equal c 36 (omega (arith, h.high))))
    (high_emit cs p c first more (bare dollars) (b.begin previous.Apart due p first class.Ordinary) (r.begin previous.Apart due p c class.Ordinary) (high_begin cs previous.Apart due p c first more h))
  where
    none : (d : ℕ) → 128 ≤ d → (t.is_name_char d || (d == 39)) ≡ false
    none d k = ap (λ v. v || (d == 39)) (high_no_name d k) ∙ not_equal d 39 (omega (arith, k))

high_operator : (cs : List ℕ) (prev : Previous) (dollars : List Token) (q : Place) (o : Option Lexeme) (due : List PendingHereDoc) (p : Place) (c first : ℕ) (more : List ℕ) → IsHigh cs c first more →
    SameHigh cs p c first more (b.end_operator prev dollars q o due p first class.Ordinary) (r.end_operator prev dollars q o due p c class.Ordinary)
high_operator cs prev dollars q None due p c first more h = refl
high_operator cs prev dollars q (Some t.BareHere) due p c first more h = high_begin cs (previous.Here q p) due p c first more h
high_operator cs prev dollars q (Some t.Dollar) due p c first more h =
    high_emit cs p c first more (t.caret prev t.Dollar q) (b.after_dollars (dollars ++ t.token t.Dollar q p ∷ []) due p first class.Ordinary)
    (r.after_dollars (dollars ++ t.token t.Dollar q p ∷ []) due p c class.Ordinary) (high_dollars cs (dollars ++ t.token t.Dollar q p ∷ []) due p c first more h)
high_operator cs prev dollars q (Some t.DollarCount) due p c first more h =
    high_emit cs p c first more (t.caret prev t.Dollar q ++ bare dollars) (b.after_dollars (t.token t.DollarCount q p ∷ []) due p first class.Ordinary)
    (r.after_dollars (t.token t.DollarCount q p ∷ []) due p c class.Ordinary) (high_dollars cs (t.token t.DollarCount q p ∷ []) due p c first more h)
high_operator cs prev dollars q (Some t.DollarFlat) due p c first more h =
    high_emit cs p c first more (t.caret prev t.Dollar q ++ bare dollars) (b.after_dollars (t.token t.DollarFlat q p ∷ []) due p first class.Ordinary)
    (r.after_dollars (t.token t.DollarFlat q p ∷ []) due p c class.Ordinary) (high_dollars cs (t.token t.DollarFlat q p ∷ []) due p c first more h)
high_operator cs prev dollars q (Some l) due p c first more h = high_ends cs prev (t.meant prev [] l) q due p c first more h

pub high_step : (cs : List ℕ) (s : LexerState) (due : List PendingHereDoc) (p : Place) (c first : ℕ) (more : List ℕ) → IsHigh cs c first more →
    SameHigh cs p c first more (b.step s due p first class.Ordinary) (r.step s due p c class.Ordinary)
high_step cs (r.Between prev) due p c first more h = high_begin cs prev due p c first more h
high_step cs r.Comment due p c first more h = high_goes cs p c first more h (λ xs. r.Comment) comment due
high_step cs (r.Backslash prev q) due p c first more h = high_goes cs p c first more h (λ xs. r.Word prev q ((92 ∷ []) ++ xs)) (word prev q (92 ∷ [])) due
high_step cs (r.WordBackslash prev q text end) due p c first more h =
    high_goes cs p c first more h (λ xs. r.Word prev q ((text ++ 92 ∷ []) ++ xs)) (word prev q (text ++ 92 ∷ [])) due
high_step cs (r.Word prev q text) due p c first more h = high_goes cs p c first more h (λ xs. r.Word prev q (text ++ xs)) (word prev q text) due
high_step cs (r.Name q text) due p c first more h =
    high_along cs p c first more (b.ends previous.Dollar (t.Name text) q due p first class.Ordinary) (b.step (r.Name q text) due p first class.Ordinary)
    (r.ends previous.Dollar (t.Name text) q due p c class.Ordinary) (r.step (r.Name q text) due p c class.Ordinary)
    (ap (λ v. cond v (goes [] (r.Name q (text ++ first ∷ [])) due) (b.ends previous.Dollar (t.Name text) q due p first class.Ordinary)) (high_no_name first h.first_high))
    (ap (λ v. cond v (goes [] (r.Name q (text ++ encode_utf8 c)) due) (r.ends previous.Dollar (t.Name text) q due p c class.Ordinary)) (high_no_name c h.high))
    (high_ends cs previous.Dollar (t.Name text) q due p c first more h)
high_step cs (r.Quoted prev q text) due p c first more h = high_goes cs p c first more h (λ xs. r.Quoted prev q (text ++ xs)) (quoted prev q text) due
high_step cs (r.Closed prev q text) due p c first more h = high_ends cs prev (t.Quoted (t.unquoted_text text)) q due p c first more h
high_step cs (r.Operator prev dollars q xs) due p c first more h =
    high_along cs p c first more (b.end_operator prev dollars q (t.operator xs) due p first class.Ordinary) (b.step (r.Operator prev dollars q xs) due p first class.Ordinary)
    (r.end_operator prev dollars q (t.operator xs) due p c class.Ordinary) (r.step (r.Operator prev dollars q xs) due p c class.Ordinary)
    (ap (λ v. cond v (goes [] (r.Operator prev dollars q (xs ++ first ∷ [])) due) (b.end_operator prev dollars q (t.operator xs) due p first class.Ordinary)) (high_begins_none xs first h.first_high))
    (ap (λ v. cond v (goes [] (r.Operator prev dollars q (xs ++ c ∷ [])) due) (r.end_operator prev dollars q (t.operator xs) due p c class.Ordinary)) (high_begins_none xs c h.high))
    (high_operator cs prev dollars q (t.operator xs) due p c first more h)
high_step cs (r.Body d text line) due p c first more h = high_goes cs p c first more h (λ xs. r.Body d text (line ++ xs)) (body d text line) due
