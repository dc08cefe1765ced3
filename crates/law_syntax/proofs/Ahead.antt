-- What the grammar asks of the tokens ahead doesn't change when more tokens follow.
use Rattle.std.proofs.Common.{◌≡◌, ◌<◌, Bool, true, false, List, [], ◌∷◌, ◌++◌, length, Some, None, refl, ap, ◌∙◌, arith}
use Rattle.std.proofs.lemmas.Option.{same_Some}
use Rattle.rc_model.specs.Syntax.Tokens.{Lexeme, Word, Newline, Caret, FreeCaret}
use Rattle.rc_model.specs.Syntax.Grammar.{begins_arg, begins_first, begins_redir, begins_brace, begins_command, begins_link, begins_bar, begins_value, begins_subscript}
use Rattle.rc_model.specs.Syntax.Grammar.{closes, ends, ends_case, past_newlines, past_blanks, past_caret, after_caret}
use Rattle.law_syntax.specs.Parts.{has_next}

pub next_from : (ts : List Lexeme) → 0 < length ts → has_next ts ≡ true
next_from [] h = absurd (omega arith)
next_from (t ∷ ts) h = refl

pub next_counts : (ts : List Lexeme) → has_next ts ≡ true → 0 < length ts
next_counts [] h = absurd cc
next_counts (t ∷ ts) h = omega arith

pub next_is : (ts us : List Lexeme) (t : Lexeme) → ts ≡ t ∷ us → has_next ts ≡ true
next_is ts us t h = ap has_next h

-- ** tests

pub arg_on : (ts us : List Lexeme) → has_next ts ≡ true → begins_arg (ts ++ us) ≡ begins_arg ts
arg_on [] us h = absurd cc
arg_on (Word text ∷ ts) us h = refl
arg_on (t ∷ ts) us h = refl

pub first_on : (ts us : List Lexeme) → has_next ts ≡ true → begins_first (ts ++ us) ≡ begins_first ts
first_on [] us h = absurd cc
first_on (Word text ∷ ts) us h = refl
first_on (t ∷ ts) us h = refl

pub redir_on : (ts us : List Lexeme) → has_next ts ≡ true → begins_redir (ts ++ us) ≡ begins_redir ts
redir_on [] us h = absurd cc
redir_on (Word text ∷ ts) us h = refl
redir_on (t ∷ ts) us h = refl

pub brace_on : (ts us : List Lexeme) → has_next ts ≡ true → begins_brace (ts ++ us) ≡ begins_brace ts
brace_on [] us h = absurd cc
brace_on (Word text ∷ ts) us h = refl
brace_on (t ∷ ts) us h = refl

pub command_on : (ts us : List Lexeme) → has_next ts ≡ true → begins_command (ts ++ us) ≡ begins_command ts
command_on [] us h = absurd cc
command_on (Word text ∷ ts) us h = refl
command_on (t ∷ ts) us h = refl

pub link_on : (ts us : List Lexeme) → has_next ts ≡ true → begins_link (ts ++ us) ≡ begins_link ts
link_on [] us h = absurd cc
link_on (Word text ∷ ts) us h = refl
link_on (t ∷ ts) us h = refl

pub bar_on : (ts us : List Lexeme) → has_next ts ≡ true → begins_bar (ts ++ us) ≡ begins_bar ts
bar_on [] us h = absurd cc
bar_on (Word text ∷ ts) us h = refl
bar_on (t ∷ ts) us h = refl

pub value_on : (ts us : List Lexeme) → has_next ts ≡ true → begins_value (ts ++ us) ≡ begins_value ts
value_on [] us h = absurd cc
value_on (Word text ∷ ts) us h = refl
value_on (t ∷ ts) us h = refl

pub subscript_on : (ts us : List Lexeme) → has_next ts ≡ true → begins_subscript (ts ++ us) ≡ begins_subscript ts
subscript_on [] us h = absurd cc
subscript_on (Word text ∷ ts) us h = refl
subscript_on (t ∷ ts) us h = refl

pub closes_on : (ts us : List Lexeme) → has_next ts ≡ true → closes (ts ++ us) ≡ closes ts
closes_on [] us h = absurd cc
closes_on (Word text ∷ ts) us h = refl
closes_on (t ∷ ts) us h = refl

pub ends_on : (in_switch : Bool) (ts us : List Lexeme) → has_next ts ≡ true → ends in_switch (ts ++ us) ≡ ends in_switch ts
ends_on in_switch [] us h = absurd cc
ends_on true (Word text ∷ ts) us h = refl
ends_on true (t ∷ ts) us h = refl
ends_on false (Word text ∷ ts) us h = refl
ends_on false (t ∷ ts) us h = refl

pub case_on : (ts us : List Lexeme) → has_next ts ≡ true → ends_case (ts ++ us) ≡ ends_case ts
case_on [] us h = absurd cc
case_on (Word text ∷ ts) us h = refl
case_on (t ∷ ts) us h = refl

-- ** what is passed over

pub newlines_on : (ts us : List Lexeme) → has_next (past_newlines ts) ≡ true → past_newlines (ts ++ us) ≡ past_newlines ts ++ us
newlines_on [] us h = absurd cc
newlines_on (Newline ∷ ts) us h = newlines_on ts us h
newlines_on (t ∷ ts) us h = refl

pub blanks_on : (inside : Bool) (ts us : List Lexeme) → has_next (past_blanks inside ts) ≡ true → past_blanks inside (ts ++ us) ≡ past_blanks inside ts ++ us
blanks_on true ts us h = newlines_on ts us h
blanks_on false ts us h = refl

pub caret_on : (ts us : List Lexeme) → has_next ts ≡ true → past_caret (ts ++ us) ≡ past_caret ts ++ us
caret_on [] us h = absurd cc
caret_on (FreeCaret ∷ ts) us h = refl
caret_on (t ∷ ts) us h = refl

pub after_on : (ts next us : List Lexeme) → after_caret ts ≡ Some next → after_caret (ts ++ us) ≡ Some (next ++ us)
after_on [] next us h = absurd cc
after_on (Caret ∷ ts) next us h = ap (λ z. Some (z ++ us)) (same_Some ts next h)
after_on (FreeCaret ∷ ts) next us h = ap (λ z. Some (z ++ us)) (same_Some ts next h)
after_on (t ∷ ts) next us h = absurd cc

pub no_after_on : (ts us : List Lexeme) → has_next ts ≡ true → after_caret ts ≡ None → after_caret (ts ++ us) ≡ None
no_after_on [] us h e = absurd cc
no_after_on (Caret ∷ ts) us h e = absurd cc
no_after_on (FreeCaret ∷ ts) us h e = absurd cc
no_after_on (t ∷ ts) us h e = refl

-- what comes after newlines, with more tokens
pub newlines_then_on : (ts next us : List Lexeme) (t : Lexeme) → past_newlines ts ≡ t ∷ next → past_newlines (ts ++ us) ≡ t ∷ (next ++ us)
newlines_then_on ts next us t h = newlines_on ts us (ap has_next h) ∙ ap (λ z. z ++ us) h

-- there is a next token before one that newlines or a caret are passed over for
pub before_newlines : (ts : List Lexeme) → has_next (past_newlines ts) ≡ true → has_next ts ≡ true
before_newlines [] h = h
before_newlines (t ∷ ts) h = refl

pub before_blanks : (inside : Bool) (ts : List Lexeme) → has_next (past_blanks inside ts) ≡ true → has_next ts ≡ true
before_blanks true ts h = before_newlines ts h
before_blanks false ts h = h

pub before_caret : (ts : List Lexeme) → has_next (past_caret ts) ≡ true → has_next ts ≡ true
before_caret [] h = h
before_caret (t ∷ ts) h = refl

pub caret_then_on : (ts next us : List Lexeme) (t : Lexeme) → past_caret ts ≡ t ∷ next → past_caret (ts ++ us) ≡ t ∷ (next ++ us)
caret_then_on ts next us t h = caret_on ts us (before_caret ts (ap has_next h)) ∙ ap (λ z. z ++ us) h
