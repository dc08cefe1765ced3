-- Reading a text byte by byte: the machine over characters, in which a character may be cut. Each byte that isn't ASCII
-- belongs to a word, as its character does.
use Rattle.std.specs.Prelude.{ℕ, suc, ◌+◌, Bool, if◌then◌else◌, ◌==◌, ◌||◌, List, [], ◌∷◌, ◌++◌}
use Rattle.std.specs.Prelude.{Option, Some, None, Ok, Err}
use Rattle.std.specs.Str.{bytes_eq}
use Rattle.rc_model.specs.Syntax.Tokens as t
use Rattle.rc_model.specs.Syntax.Tokens.{Lexeme, Token, PendingHereDoc, Outcome}
use Rattle.rc_model.specs.Mirrors.Reading as r
use Rattle.rc_model.specs.Mirrors.Reading.{LexerState, AfterCharacter, goes, emit, bare_here, without_here}
use Rattle.rc_model.specs.Mirrors.Reading.{begin_line, bare, finish, follow}
use Rattle.rc_model.specs.declared.fault.FaultKind.TheVariants.{BadDescriptor}
use Rattle.rc_model.specs.declared.syntax.Place.{Place}
use Rattle.rc_model.specs.declared.syntax.Previous.{Previous}
use Rattle.rc_model.specs.declared.syntax.Class.{Class}
use Rattle.rc_model.specs.declared.syntax.Previous.TheVariants as previous
use Rattle.rc_model.specs.declared.syntax.Class.TheVariants as class

-- the place after a byte
abbrev pub after_byte : Place → ℕ → Place
after_byte p b = record { byte = p.byte + 1; line = if b == 10 then suc p.line else p.line }

-- the place after several bytes
abbrev pub after_bytes : Place → List ℕ → Place
after_bytes p [] = p
after_bytes p (b ∷ bs) = after_bytes (after_byte p b) bs

-- an operator of one byte that begins no other operator: `;` `^` `=` `(` `)` `{` `}` and the backquote
abbrev pub is_alone : ℕ → Bool
is_alone b = (b == 59) || (b == 94) || (b == 61) || (b == 40) || (b == 41) || (b == 123) || (b == 125) || (b == 96)

-- its lexeme
abbrev pub alone : ℕ → Lexeme
alone b =
    if b == 59 then t.Semicolon else (if b == 94 then t.Caret else (if b == 61 then t.Equals
    else (if b == 40 then t.LeftParen else (if b == 41 then t.RightParen else (if b == 123 then t.LeftBrace
    else (if b == 125 then t.RightBrace else t.Backquote))))))

-- a lexeme of one byte has ended
abbrev pub at_once : Previous → Lexeme → List PendingHereDoc → Place → ℕ → AfterCharacter
at_once prev l due p b = goes (t.tokens_of prev l p (after_byte p b)) (r.Between (t.after_token prev l)) due

-- what the first byte of an operator begins: one that no other operator continues ends at once
abbrev pub begin_operator : Previous → List PendingHereDoc → Place → ℕ → AfterCharacter
begin_operator prev due p b =
    if is_alone b then at_once prev (t.meant prev [] (alone b)) due p b
    else goes [] (r.Operator prev [] p (b ∷ [])) due

-- what a byte begins, in each class
abbrev pub begin : Previous → List PendingHereDoc → Place → ℕ → Class → AfterCharacter
begin prev due p b class.Operates = emit (bare_here prev) (begin_operator (without_here prev) due p b)
begin prev due p b class.Blank = goes [] (r.Between (t.after_blank prev)) due
begin prev due p b class.LineEnd = begin_line (bare_here prev ++ t.token t.Newline p (after_byte p b) ∷ []) [] due
begin prev due p b class.Hash = goes (bare_here prev) r.Comment due
begin prev due p b class.Quote = goes [] (r.Quoted prev p (b ∷ [])) due
begin prev due p b class.Backslash = goes [] (r.Backslash prev p) due
begin prev due p b class.Ordinary =
    goes [] (if t.begins_name prev b then r.Name p (b ∷ []) else r.Word prev p (b ∷ [])) due

-- the byte ends a lexeme
abbrev pub ends : Previous → Lexeme → Place → List PendingHereDoc → Place → ℕ → Class → AfterCharacter
ends prev l q due p b k =
    emit (t.tokens_of prev l q p) (begin (t.after_token prev l) (t.pending_after prev l due) p b k)

-- one byte of a word, or the first after it
abbrev pub in_word : Previous → Place → List ℕ → List PendingHereDoc → Place → ℕ → Class → AfterCharacter
in_word prev q text due p b class.Ordinary = goes [] (r.Word prev q (text ++ b ∷ [])) due
in_word prev q text due p b class.Backslash = goes [] (r.WordBackslash prev q text p) due
in_word prev q text due p b k = ends prev (t.Word text) q due p b k

-- after `$`s: a name begins, a further `$`, or they are bare
abbrev pub after_dollars : List Token → List PendingHereDoc → Place → ℕ → Class → AfterCharacter
after_dollars dollars due p b k =
    if t.is_name_char b || (b == 39) then emit dollars (begin previous.Dollar due p b k)
    else (if b == 36 then goes [] (r.Operator previous.Dollar dollars p (b ∷ [])) due
    else emit (bare dollars) (begin previous.Apart due p b k))

-- the byte ends an operator
abbrev pub end_operator : Previous → List Token → Place → Option Lexeme → List PendingHereDoc → Place → ℕ → Class →
    AfterCharacter
end_operator prev dollars q None due p b k = Err (t.fault BadDescriptor q.line)
end_operator prev dollars q (Some t.BareHere) due p b k = begin (previous.Here q p) due p b k
end_operator prev dollars q (Some t.Dollar) due p b k =
    emit (t.caret prev t.Dollar q) (after_dollars (dollars ++ t.token t.Dollar q p ∷ []) due p b k)
end_operator prev dollars q (Some t.DollarCount) due p b k =
    emit (t.caret prev t.Dollar q ++ bare dollars) (after_dollars (t.token t.DollarCount q p ∷ []) due p b k)
end_operator prev dollars q (Some t.DollarFlat) due p b k =
    emit (t.caret prev t.Dollar q ++ bare dollars) (after_dollars (t.token t.DollarFlat q p ∷ []) due p b k)
end_operator prev dollars q (Some l) due p b k = ends prev (t.meant prev [] l) q due p b k

-- one byte
abbrev pub step : LexerState → List PendingHereDoc → Place → ℕ → Class → AfterCharacter
step (r.Between prev) due p b k = begin prev due p b k
step r.Comment due p b class.LineEnd = begin previous.Apart due p b class.LineEnd
step r.Comment due p b k = goes [] r.Comment due
step (r.Backslash prev q) due p b class.LineEnd = goes [] (r.Between (t.after_blank prev)) due
step (r.Backslash prev q) due p b k = in_word prev q (92 ∷ []) due p b k
step (r.WordBackslash prev q text end) due p b class.LineEnd =
    goes (t.tokens_of prev (t.Word text) q end) (r.Between previous.Apart) (t.pending_after prev (t.Word text) due)
step (r.WordBackslash prev q text end) due p b k = in_word prev q (text ++ 92 ∷ []) due p b k
step (r.Word prev q text) due p b k = in_word prev q text due p b k
step (r.Name q text) due p b k =
    if t.is_name_char b then goes [] (r.Name q (text ++ b ∷ [])) due
    else ends previous.Dollar (t.Name text) q due p b k
step (r.Quoted prev q text) due p b class.Quote = goes [] (r.Closed prev q (text ++ b ∷ [])) due
step (r.Quoted prev q text) due p b k = goes [] (r.Quoted prev q (text ++ b ∷ [])) due
step (r.Closed prev q text) due p b class.Quote = goes [] (r.Quoted prev q (text ++ b ∷ [])) due
step (r.Closed prev q text) due p b k = ends prev (t.Quoted (t.unquoted_text text)) q due p b k
step (r.Operator prev dollars q cs) due p b k =
    if t.begins_operator (cs ++ b ∷ []) then goes [] (r.Operator prev dollars q (cs ++ b ∷ [])) due
    else end_operator prev dollars q (t.operator cs) due p b k
step (r.Body d body line) due p b class.LineEnd =
    if bytes_eq line d.mark then begin_line [] (body ∷ []) due
    else goes [] (r.Body d (body ++ line ++ b ∷ []) []) due
step (r.Body d body line) due p b k = goes [] (r.Body d body (line ++ b ∷ [])) due

-- the rest of a text
abbrev pub run : LexerState → List PendingHereDoc → Place → List ℕ → Outcome
run s due p [] = finish s due p
run s due p (b ∷ bs) = follow (step s due p b (t.class_of b)) (λ s' due'. run s' due' (after_byte p b) bs)

-- a step with these tokens and bodies before its own
abbrev pub put : List Token → List (List ℕ) → AfterCharacter → AfterCharacter
put ts bodies (Ok x) = Ok (ts ++ x.0, bodies ++ x.1, x.2, x.3)
put ts bodies (Err f) = Err f

-- one step, and then others
abbrev pub chain : AfterCharacter → (LexerState → List PendingHereDoc → AfterCharacter) → AfterCharacter
chain (Ok x) then' = put x.0 x.1 (then' x.2 x.3)
chain (Err f) then' = Err f

-- the steps over a part of a text
abbrev pub through : LexerState → List PendingHereDoc → Place → List ℕ → AfterCharacter
through s due p [] = goes [] s due
through s due p (b ∷ bs) = chain (step s due p b (t.class_of b)) (λ s' due'. through s' due' (after_byte p b) bs)
