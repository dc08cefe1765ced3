-- Reading a text character by character: the machine for the cut of a text into tokens.
use Rattle.std.specs.Prelude.{ℕ, suc, if◌then◌else◌, ◌==◌, ◌||◌, List, [], ◌∷◌, ◌++◌, map}
use Rattle.std.specs.Prelude.{Option, Some, None, Result, Ok, Err}
use Rattle.std.specs.Char.{encode_utf8}
use Rattle.std.specs.Str.{bytes_eq, chars}
use Rattle.rc_model.specs.Syntax.Tokens as t
use Rattle.rc_model.specs.Syntax.Tokens.{Lexeme, Token, PendingHereDoc, Outcome}
use Rattle.rc_model.specs.Syntax.Faults.{SyntaxFault}
use Rattle.rc_model.specs.declared.syntax.Place.{Place}
use Rattle.rc_model.specs.declared.syntax.Previous.{Previous}
use Rattle.rc_model.specs.declared.syntax.Class.{Class}
use Rattle.rc_model.specs.declared.syntax.Previous.TheVariants as previous
use Rattle.rc_model.specs.declared.syntax.Class.TheVariants as class

-- what is being read
pub data LexerState : Type 0 where
  -- nothing, in this context
  Between : Previous → LexerState
  Comment : LexerState
  -- a backslash at this place, alone and after a word: with a newline it is a blank
  Backslash : Previous → (begin : Place) → LexerState
  WordBackslash : Previous → (begin : Place) → (text : List ℕ) → (end : Place) → LexerState
  -- a word or a name that begins at this place, with its text so far
  Word : Previous → (begin : Place) → (text : List ℕ) → LexerState
  Name : (begin : Place) → (text : List ℕ) → LexerState
  -- a quoted word, and one after a quote that ends it if no other follows
  Quoted : Previous → (begin : Place) → (text : List ℕ) → LexerState
  Closed : Previous → (begin : Place) → (text : List ℕ) → LexerState
  -- an operator with its characters so far, after `$`s whose name is still to come
  Operator : Previous → (dollars : List Token) → (begin : Place) → (cs : List ℕ) → LexerState
  -- the body of a here document: its whole lines, and the last line so far
  Body : PendingHereDoc → (body line : List ℕ) → LexerState

-- a step: the tokens and bodies that a character ends, the state and the here documents due after it; or a fault
abbrev pub AfterCharacter : Type 0
AfterCharacter = Result (List Token × List (List ℕ) × LexerState × List PendingHereDoc) SyntaxFault

-- these tokens have ended, and reading goes on in this state
abbrev pub goes : List Token → LexerState → List PendingHereDoc → AfterCharacter
goes ts s due = Ok (ts, [], s, due)

-- the step with these tokens before its own
abbrev pub emit : List Token → AfterCharacter → AfterCharacter
emit ts (Ok x) = Ok (ts ++ x.0, x.1, x.2, x.3)
emit ts (Err f) = Err f

-- a `<<` without a mark
abbrev pub bare_here : Previous → List Token
bare_here (previous.Here begin end) = t.token t.BareHere begin end ∷ []
bare_here _ = []

-- the context, once the mark is given up
abbrev pub without_here : Previous → Previous
without_here (previous.Here begin end) = previous.Apart
without_here prev = prev

-- after a newline token, or after a body
abbrev pub begin_line : List Token → List (List ℕ) → List PendingHereDoc → AfterCharacter
begin_line ts bodies [] = Ok (ts, bodies, Between previous.Apart, [])
begin_line ts bodies (d ∷ due) = Ok (ts, bodies, Body d [] [], due)

-- what a character begins, in each class
abbrev pub begin : Previous → List PendingHereDoc → Place → ℕ → Class → AfterCharacter
begin prev due p c class.Operates = goes (bare_here prev) (Operator (without_here prev) [] p (c ∷ [])) due
begin prev due p c class.Blank = goes [] (Between (t.after_blank prev)) due
begin prev due p c class.LineEnd = begin_line (bare_here prev ++ t.token t.Newline p (t.after_char p c) ∷ []) [] due
begin prev due p c class.Hash = goes (bare_here prev) Comment due
begin prev due p c class.Quote = goes [] (Quoted prev p (encode_utf8 c)) due
begin prev due p c class.Backslash = goes [] (Backslash prev p) due
begin prev due p c class.Ordinary =
    goes [] (if t.begins_name prev c then Name p (encode_utf8 c) else Word prev p (encode_utf8 c)) due

-- the character ends a lexeme
abbrev pub ends : Previous → Lexeme → Place → List PendingHereDoc → Place → ℕ → Class → AfterCharacter
ends prev l q due p c k =
    emit (t.tokens_of prev l q p) (begin (t.after_token prev l) (t.pending_after prev l due) p c k)

-- one character of a word, or the first after it
abbrev pub in_word : Previous → Place → List ℕ → List PendingHereDoc → Place → ℕ → Class → AfterCharacter
in_word prev q text due p c class.Ordinary = goes [] (Word prev q (text ++ encode_utf8 c)) due
in_word prev q text due p c class.Backslash = goes [] (WordBackslash prev q text p) due
in_word prev q text due p c k = ends prev (t.Word text) q due p c k

-- a `$` that has no name
abbrev pub bare : List Token → List Token
bare dollars = map (λ d. record { lexeme = t.BareDollar; start = d.start; stop = d.stop; line = d.line }) dollars

-- after `$`s: a name begins, a further `$`, or they are bare
abbrev pub after_dollars : List Token → List PendingHereDoc → Place → ℕ → Class → AfterCharacter
after_dollars dollars due p c k =
    if t.is_name_char c || (c == 39) then emit dollars (begin previous.Dollar due p c k)
    else (if c == 36 then goes [] (Operator previous.Dollar dollars p (c ∷ [])) due
    else emit (bare dollars) (begin previous.Apart due p c k))

-- the character ends an operator
abbrev pub end_operator : Previous → List Token → Place → Option Lexeme → List PendingHereDoc → Place → ℕ → Class →
    AfterCharacter
end_operator prev dollars q None due p c k = Err (t.fault t.BadDescriptor q.line)
end_operator prev dollars q (Some t.BareHere) due p c k = begin (previous.Here q p) due p c k
end_operator prev dollars q (Some t.Dollar) due p c k =
    emit (t.caret prev t.Dollar q) (after_dollars (dollars ++ t.token t.Dollar q p ∷ []) due p c k)
end_operator prev dollars q (Some t.DollarCount) due p c k =
    emit (t.caret prev t.Dollar q ++ bare dollars) (after_dollars (t.token t.DollarCount q p ∷ []) due p c k)
end_operator prev dollars q (Some t.DollarFlat) due p c k =
    emit (t.caret prev t.Dollar q ++ bare dollars) (after_dollars (t.token t.DollarFlat q p ∷ []) due p c k)
end_operator prev dollars q (Some l) due p c k = ends prev (t.meant prev [] l) q due p c k

-- one character
abbrev pub step : LexerState → List PendingHereDoc → Place → ℕ → Class → AfterCharacter
step (Between prev) due p c k = begin prev due p c k
step Comment due p c class.LineEnd = begin previous.Apart due p c class.LineEnd
step Comment due p c k = goes [] Comment due
step (Backslash prev q) due p c class.LineEnd = goes [] (Between (t.after_blank prev)) due
step (Backslash prev q) due p c k = in_word prev q (92 ∷ []) due p c k
step (WordBackslash prev q text end) due p c class.LineEnd =
    goes (t.tokens_of prev (t.Word text) q end) (Between previous.Apart) (t.pending_after prev (t.Word text) due)
step (WordBackslash prev q text end) due p c k = in_word prev q (text ++ 92 ∷ []) due p c k
step (Word prev q text) due p c k = in_word prev q text due p c k
step (Name q text) due p c k =
    if t.is_name_char c then goes [] (Name q (text ++ encode_utf8 c)) due
    else ends previous.Dollar (t.Name text) q due p c k
step (Quoted prev q text) due p c class.Quote = goes [] (Closed prev q (text ++ encode_utf8 c)) due
step (Quoted prev q text) due p c k = goes [] (Quoted prev q (text ++ encode_utf8 c)) due
step (Closed prev q text) due p c class.Quote = goes [] (Quoted prev q (text ++ encode_utf8 c)) due
step (Closed prev q text) due p c k = ends prev (t.Quoted (t.unquoted_text text)) q due p c k
step (Operator prev dollars q cs) due p c k =
    if t.begins_operator (cs ++ c ∷ []) then goes [] (Operator prev dollars q (cs ++ c ∷ [])) due
    else end_operator prev dollars q (t.operator cs) due p c k
step (Body d body line) due p c class.LineEnd =
    if bytes_eq line d.mark then begin_line [] (body ∷ []) due
    else goes [] (Body d (body ++ line ++ encode_utf8 c) []) due
step (Body d body line) due p c k = goes [] (Body d body (line ++ encode_utf8 c)) due

-- the outcome at the end, with these last tokens
abbrev pub closed : List Token → List (List ℕ) → List PendingHereDoc → Outcome
closed ts bodies [] = Ok (ts, bodies)
closed ts bodies (d ∷ due) = Err (t.fault t.OpenHere d.line)

-- the last lexeme
abbrev pub ended : Previous → Lexeme → Place → List PendingHereDoc → Place → Outcome
ended prev l q due p = closed (t.tokens_of prev l q p) [] (t.pending_after prev l due)

-- the last operator
abbrev pub finish_operator : Previous → List Token → Place → Option Lexeme → List PendingHereDoc → Place → Outcome
finish_operator prev dollars q None due p = Err (t.fault t.BadDescriptor q.line)
finish_operator prev dollars q (Some l) due p = closed (bare dollars ++ t.tokens_of prev (t.meant prev [] l) q p) [] due

-- the end of the text, in each state
abbrev pub finish : LexerState → List PendingHereDoc → Place → Outcome
finish (Between prev) due p = closed (bare_here prev) [] due
finish Comment due p = closed [] [] due
finish (Backslash prev q) due p = ended prev (t.Word (92 ∷ [])) q due p
finish (WordBackslash prev q text end) due p = ended prev (t.Word (text ++ 92 ∷ [])) q due p
finish (Word prev q text) due p = ended prev (t.Word text) q due p
finish (Name q text) due p = ended previous.Dollar (t.Name text) q due p
finish (Quoted prev q text) due p = Err (t.fault t.OpenQuote q.line)
finish (Closed prev q text) due p = ended prev (t.Quoted (t.unquoted_text text)) q due p
finish (Operator prev dollars q cs) due p = finish_operator prev dollars q (t.operator cs) due p
finish (Body d body []) due p = Err (t.fault t.OpenHere d.line)
finish (Body d body (b ∷ line)) due p =
    if bytes_eq (b ∷ line) d.mark then closed [] (body ∷ []) due else Err (t.fault t.OpenHere d.line)

-- goes on after a step, unless it is a fault
abbrev pub follow : AfterCharacter → (LexerState → List PendingHereDoc → Outcome) → Outcome
follow (Ok x) then' = t.join x.0 x.1 (then' x.2 x.3)
follow (Err f) then' = Err f

-- the outcome of the rest of a text
abbrev pub run : LexerState → List PendingHereDoc → Place → List ℕ → Outcome
run s due p [] = finish s due p
run s due p (c ∷ cs) = follow (step s due p c (t.class_of c)) (λ s' due'. run s' due' (t.after_char p c) cs)

-- the line of the first byte 0
abbrev pub zero_line : ℕ → List ℕ → Option ℕ
zero_line line [] = None
zero_line line (c ∷ cs) = if c == 0 then Some line else zero_line (if c == 10 then suc line else line) cs

-- a byte 0 takes precedence
abbrev pub unless_zero : Option ℕ → Outcome → Result (List Token) SyntaxFault
unless_zero None o = t.result_of o
unless_zero (Some line) o = Err (t.fault t.ZeroByte line)

-- the tokens of a text, or its first fault
abbrev pub lexed : List ℕ → Result (List Token) SyntaxFault
lexed text = unless_zero (zero_line 1 (chars text)) (run (Between previous.Apart) [] t.first_place (chars text))

-- the machine finds the tokens of a text, or its first fault, and the text has no other outcome
abbrev pub ReadingLaw : Type 0
ReadingLaw = (text : List ℕ) → t.IsCut text (lexed text)
