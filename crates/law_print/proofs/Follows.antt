-- How printed phrases open, and what follows them.
use Rattle.std.proofs.Common.{◌≡◌, refl, ℕ, Bool, true, false, ◌&&◌, List, [], ◌∷◌, ◌++◌, None}
use Rattle.rc_model.specs.declared.call.Mode.{Mode}
use Rattle.rc_model.specs.Syntax.Tokens.{Lexeme, Word, Quoted, Semicolon, Ampersand, AndAnd, OrOr, Bar}
use Rattle.rc_model.specs.Syntax.Tokens.{LeftParen, RightParen, LeftBrace, RightBrace, Backquote, Redirection, CopyTo}
use Rattle.rc_model.specs.Syntax.Tokens.{Dollar, DollarCount, DollarFlat}
use Rattle.rc_model.specs.Syntax.Grammar.{past_newlines, past_blanks, past_caret, after_caret, closes, ends, is_case}
use Rattle.rc_model.specs.Syntax.Grammar.{begins_arg, begins_redir, begins_brace, begins_command, begins_link, begins_bar, begins_value, begins_subscript}

-- a list ends here
pub data Closing : List Lexeme → Type 0 where
  at_end : Closing []
  at_paren : {ts : List Lexeme} → Closing (RightParen ∷ ts)
  at_brace : {ts : List Lexeme} → Closing (RightBrace ∷ ts)

-- a command ends here
pub data Ends : List Lexeme → Type 0 where
  at_close : {ts : List Lexeme} → Closing ts → Ends ts
  at_semicolon : {ts : List Lexeme} → Ends (Semicolon ∷ ts)
  at_ampersand : {ts : List Lexeme} → Ends (Ampersand ∷ ts)

-- an operand of `&&` and `||` ends here
pub data EndsOperand : List Lexeme → Type 0 where
  at_command_end : {ts : List Lexeme} → Ends ts → EndsOperand ts
  at_and : {ts : List Lexeme} → EndsOperand (AndAnd ∷ ts)
  at_or : {ts : List Lexeme} → EndsOperand (OrOr ∷ ts)

-- a stage of a pipeline ends here
pub data EndsStage : List Lexeme → Type 0 where
  at_operand_end : {ts : List Lexeme} → EndsOperand ts → EndsStage ts
  at_bar : {slot : ℕ} {ts : List Lexeme} → EndsStage (Bar slot ∷ ts)

-- an argument ends here
pub record EndsArg (ts : List Lexeme) : Type 0 where
  pub newlines : past_newlines ts ≡ ts
  pub caret : after_caret ts ≡ None
  pub subscript : begins_subscript ts ≡ false

-- no argument, redirection, brace or value begins here
pub record Quiet (ts : List Lexeme) : Type 0 where
  pub apart : EndsArg ts
  pub arg : begins_arg ts ≡ false
  pub redir : begins_redir ts ≡ false
  pub brace : begins_brace ts ≡ false
  pub value : begins_value ts ≡ false
  pub command : begins_command ts ≡ false
  pub free : past_caret ts ≡ ts

pub quiet : {ts : List Lexeme} → EndsStage ts → Quiet ts
quiet (at_operand_end (at_command_end (at_close at_end))) =
    record { apart = record { newlines = refl; caret = refl; subscript = refl }; arg = refl; redir = refl; brace = refl; value = refl; command = refl; free = refl }
quiet (at_operand_end (at_command_end (at_close at_paren))) =
    record { apart = record { newlines = refl; caret = refl; subscript = refl }; arg = refl; redir = refl; brace = refl; value = refl; command = refl; free = refl }
quiet (at_operand_end (at_command_end (at_close at_brace))) =
    record { apart = record { newlines = refl; caret = refl; subscript = refl }; arg = refl; redir = refl; brace = refl; value = refl; command = refl; free = refl }
quiet (at_operand_end (at_command_end at_semicolon)) =
    record { apart = record { newlines = refl; caret = refl; subscript = refl }; arg = refl; redir = refl; brace = refl; value = refl; command = refl; free = refl }
quiet (at_operand_end (at_command_end at_ampersand)) =
    record { apart = record { newlines = refl; caret = refl; subscript = refl }; arg = refl; redir = refl; brace = refl; value = refl; command = refl; free = refl }
quiet (at_operand_end at_and) =
    record { apart = record { newlines = refl; caret = refl; subscript = refl }; arg = refl; redir = refl; brace = refl; value = refl; command = refl; free = refl }
quiet (at_operand_end at_or) =
    record { apart = record { newlines = refl; caret = refl; subscript = refl }; arg = refl; redir = refl; brace = refl; value = refl; command = refl; free = refl }
quiet at_bar =
    record { apart = record { newlines = refl; caret = refl; subscript = refl }; arg = refl; redir = refl; brace = refl; value = refl; command = refl; free = refl }

pub end_apart : {ts : List Lexeme} → Ends ts → EndsArg ts
end_apart e = (quiet (at_operand_end (at_command_end e))).apart

pub end_link : {ts : List Lexeme} → Ends ts → begins_link ts ≡ false
end_link (at_close at_end) = refl
end_link (at_close at_paren) = refl
end_link (at_close at_brace) = refl
end_link at_semicolon = refl
end_link at_ampersand = refl

pub operand_bar : {ts : List Lexeme} → EndsOperand ts → begins_bar ts ≡ false
operand_bar (at_command_end (at_close at_end)) = refl
operand_bar (at_command_end (at_close at_paren)) = refl
operand_bar (at_command_end (at_close at_brace)) = refl
operand_bar (at_command_end at_semicolon) = refl
operand_bar (at_command_end at_ampersand) = refl
operand_bar at_and = refl
operand_bar at_or = refl

pub closing_closes : {ts : List Lexeme} → Closing ts → closes ts ≡ true
closing_closes at_end = refl
closing_closes at_paren = refl
closing_closes at_brace = refl

pub blank_apart : (inside : Bool) {ts : List Lexeme} → EndsArg ts → past_blanks inside ts ≡ ts
blank_apart true e = e.newlines
blank_apart false e = refl

-- What follows an operand: the end of a command, or where a link followed it before also a link.
pub data Fits (rest : List Lexeme) (ts : List Lexeme) : Type 0 where
  as_end : Ends ts → Fits rest ts
  as_operand : begins_link rest ≡ true → EndsOperand ts → Fits rest ts

pub fits_operand : {rest ts : List Lexeme} → Fits rest ts → EndsOperand ts
fits_operand (as_end e) = at_command_end e
fits_operand (as_operand h e) = e

pub fits_end : {rest ts : List Lexeme} → begins_link rest ≡ false → Fits rest ts → Ends ts
fits_end h (as_end e) = e
fits_end h (as_operand k e) = absurd cc

-- an argument opens so
pub data ArgOpens : List Lexeme → Type 0 where
  word : {text : List ℕ} {ts : List Lexeme} → ArgOpens (Word text ∷ ts)
  quoted : {text : List ℕ} {ts : List Lexeme} → ArgOpens (Quoted text ∷ ts)
  paren : {ts : List Lexeme} → ArgOpens (LeftParen ∷ ts)
  backquote : {ts : List Lexeme} → ArgOpens (Backquote ∷ ts)
  dollar : {ts : List Lexeme} → ArgOpens (Dollar ∷ ts)
  count : {ts : List Lexeme} → ArgOpens (DollarCount ∷ ts)
  flat : {ts : List Lexeme} → ArgOpens (DollarFlat ∷ ts)

-- a redirection opens so
pub data RedirOpens : List Lexeme → Type 0 where
  redirection : {mode : Mode} {slot : ℕ} {ts : List Lexeme} → RedirOpens (Redirection mode slot ∷ ts)
  copy : {to from : ℕ} {ts : List Lexeme} → RedirOpens (CopyTo to from ∷ ts)

-- a command opens so; where an item of a branch begins with it, not as a case line does
pub data Opens (begins : Bool) : List Lexeme → Type 0 where
  by_word : {text : List ℕ} {ts : List Lexeme} → (begins && is_case text) ≡ false → Opens begins (Word text ∷ ts)
  by_quoted : {text : List ℕ} {ts : List Lexeme} → Opens begins (Quoted text ∷ ts)
  by_paren : {ts : List Lexeme} → Opens begins (LeftParen ∷ ts)
  by_backquote : {ts : List Lexeme} → Opens begins (Backquote ∷ ts)
  by_dollar : {ts : List Lexeme} → Opens begins (Dollar ∷ ts)
  by_count : {ts : List Lexeme} → Opens begins (DollarCount ∷ ts)
  by_flat : {ts : List Lexeme} → Opens begins (DollarFlat ∷ ts)
  by_redirection : {mode : Mode} {slot : ℕ} {ts : List Lexeme} → Opens begins (Redirection mode slot ∷ ts)
  by_copy : {to from : ℕ} {ts : List Lexeme} → Opens begins (CopyTo to from ∷ ts)
  by_brace : {ts : List Lexeme} → Opens begins (LeftBrace ∷ ts)

pub arg_open : {ts : List Lexeme} → ArgOpens ts → Opens false ts
arg_open word = by_word refl
arg_open quoted = by_quoted
arg_open paren = by_paren
arg_open backquote = by_backquote
arg_open dollar = by_dollar
arg_open count = by_count
arg_open flat = by_flat

pub arg_redir : {ts : List Lexeme} → ArgOpens ts → begins_redir ts ≡ false
arg_redir word = refl
arg_redir quoted = refl
arg_redir paren = refl
arg_redir backquote = refl
arg_redir dollar = refl
arg_redir count = refl
arg_redir flat = refl

pub redir_open : (begins : Bool) {ts : List Lexeme} → RedirOpens ts → Opens begins ts
redir_open begins redirection = by_redirection
redir_open begins copy = by_copy

pub arg_open_on : {ts : List Lexeme} (us : List Lexeme) → ArgOpens ts → ArgOpens (ts ++ us)
arg_open_on us word = word
arg_open_on us quoted = quoted
arg_open_on us paren = paren
arg_open_on us backquote = backquote
arg_open_on us dollar = dollar
arg_open_on us count = count
arg_open_on us flat = flat

pub redir_open_on : {ts : List Lexeme} (us : List Lexeme) → RedirOpens ts → RedirOpens (ts ++ us)
redir_open_on us redirection = redirection
redir_open_on us copy = copy

pub open_on : {begins : Bool} {ts : List Lexeme} (us : List Lexeme) → Opens begins ts → Opens begins (ts ++ us)
open_on us (by_word h) = by_word h
open_on us by_quoted = by_quoted
open_on us by_paren = by_paren
open_on us by_backquote = by_backquote
open_on us by_dollar = by_dollar
open_on us by_count = by_count
open_on us by_flat = by_flat
open_on us by_redirection = by_redirection
open_on us by_copy = by_copy
open_on us by_brace = by_brace

-- what is known where a command opens
pub record Opened (begins : Bool) (ts : List Lexeme) : Type 0 where
  pub apart : EndsArg ts
  pub value : begins_value ts ≡ false
  pub free : past_caret ts ≡ ts
  pub goes_on : ends begins ts ≡ false

open_word : (begins : Bool) (text : List ℕ) (ts : List Lexeme) → (begins && is_case text) ≡ false → ends begins (Word text ∷ ts) ≡ false
open_word true text ts h = h
open_word false text ts h = refl

open_other : (begins : Bool) (l : Lexeme) (ts : List Lexeme) → ends true (l ∷ ts) ≡ false → closes (l ∷ ts) ≡ false → ends begins (l ∷ ts) ≡ false
open_other true l ts h k = h
open_other false l ts h k = k

pub opened : {begins : Bool} {ts : List Lexeme} → Opens begins ts → Opened begins ts
opened {begins} (by_word {text} {ts} h) =
    record { apart = record { newlines = refl; caret = refl; subscript = refl }; value = refl; free = refl; goes_on = open_word begins text ts h }
opened {begins} (by_quoted {text} {ts}) =
    record { apart = record { newlines = refl; caret = refl; subscript = refl }; value = refl; free = refl; goes_on = open_other begins (Quoted text) ts refl refl }
opened {begins} (by_paren {ts}) =
    record { apart = record { newlines = refl; caret = refl; subscript = refl }; value = refl; free = refl; goes_on = open_other begins LeftParen ts refl refl }
opened {begins} (by_backquote {ts}) =
    record { apart = record { newlines = refl; caret = refl; subscript = refl }; value = refl; free = refl; goes_on = open_other begins Backquote ts refl refl }
opened {begins} (by_dollar {ts}) =
    record { apart = record { newlines = refl; caret = refl; subscript = refl }; value = refl; free = refl; goes_on = open_other begins Dollar ts refl refl }
opened {begins} (by_count {ts}) =
    record { apart = record { newlines = refl; caret = refl; subscript = refl }; value = refl; free = refl; goes_on = open_other begins DollarCount ts refl refl }
opened {begins} (by_flat {ts}) =
    record { apart = record { newlines = refl; caret = refl; subscript = refl }; value = refl; free = refl; goes_on = open_other begins DollarFlat ts refl refl }
opened {begins} (by_redirection {mode} {slot} {ts}) =
    record { apart = record { newlines = refl; caret = refl; subscript = refl }; value = refl; free = refl; goes_on = open_other begins (Redirection mode slot) ts refl refl }
opened {begins} (by_copy {to} {from} {ts}) =
    record { apart = record { newlines = refl; caret = refl; subscript = refl }; value = refl; free = refl; goes_on = open_other begins (CopyTo to from) ts refl refl }
opened {begins} (by_brace {ts}) =
    record { apart = record { newlines = refl; caret = refl; subscript = refl }; value = refl; free = refl; goes_on = open_other begins LeftBrace ts refl refl }

pub brace_apart : {us : List Lexeme} → EndsArg (LeftBrace ∷ us)
brace_apart = (opened {begins = false} by_brace).apart

pub word_apart : {text : List ℕ} {us : List Lexeme} → EndsArg (Word text ∷ us)
word_apart = (opened (arg_open word)).apart
