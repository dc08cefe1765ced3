-- The state and the functions of the lexer, as the definitions see them.
use Rattle.std.specs.Prelude.{◌≡◌, ℕ, Bool, List, [], ◌∷◌, ◌++◌, map, Result, Ok, Err}
use Rattle.rc_model.specs.Syntax.Tokens as t
use Rattle.rc_lexer.specs.Answers.{ScriptError}
use Rattle.rc_lexer.specs.Spans as spans
use Rattle.rc_lexer.specs.Spans.{AfterByte}
use Rattle.rc_model.specs.declared.fault.InputError.TheVariants.{Fault, NoMemory}
use Rattle.rc_model.specs.declared.syntax.Place.{Place}
use Rattle.rc_model.specs.declared.syntax.Previous.{Previous}
use Rattle.rc_model.specs.declared.syntax.Previous.TheVariants as previous
use Rattle.rc_lexer.specs.declared.byte_classes.ByteClass.{ByteClass}
use Rattle.rc_lexer.specs.declared.Span.{Span}
use Rattle.rc_lexer.specs.declared.Token.{Token}
use Rattle.rc_lexer.specs.declared.lexer_state.LexerState.{LexerState}
use Rattle.rc_lexer.specs.declared.lexer_state.LexerState.TheVariants.{Between, Operator, Body}
use Rattle.rc_lexer.specs.declared.lexer_state.PendingHereDoc.{PendingHereDoc}
use Rattle.rc_lexer.specs.declared.lexer_state.Reading.{Reading}

-- a here document that is due
abbrev pub pending_of : PendingHereDoc → t.PendingHereDoc
pending_of d = record { mark = d.mark.items; line = d.line }

-- the here documents that are due
abbrev pub pending_in : Reading → List t.PendingHereDoc
pending_in r = map pending_of r.pending.items

-- the `$`s whose name is still to come; they count only while an operator is read
abbrev pub dollars_in : LexerState → Reading → List Token
dollars_in (Operator start op) r = r.dollars.items
dollars_in s r = []

-- a step, after these tokens and bodies
abbrev pub appended : List Token → List Span → AfterByte → AfterByte
appended ts bodies (Ok x) = Ok (ts ++ x.0, bodies ++ x.1, x.2, x.3, x.4)
appended ts bodies (Err f) = Err f

-- the reading does this step, or memory ran out
abbrev pub Takes : Reading → Reading → Result LexerState ScriptError → AfterByte → Type 0
Takes old new (Ok s) x =
    appended old.tokens.items old.bodies.items x
    ≡ Ok (new.tokens.items, new.bodies.items, s, dollars_in s new, pending_in new)
Takes old new (Err (Fault f)) x = x ≡ Err f
Takes old new (Err NoMemory) x = Unit {0}

-- the reading does the step of the definitions for a byte in this state, or memory ran out
abbrev pub TakesStep : List ℕ → LexerState → Place → ℕ → ByteClass → Reading → Reading →
    Result LexerState ScriptError → Type 0
TakesStep script s place b class old new result =
    Takes old new result (spans.step script s (dollars_in s old) (pending_in old) place b class)

-- what a step that leaves this state comes to
abbrev pub left : LexerState → Result (Unit {0}) ScriptError → Result LexerState ScriptError
left s (Ok u) = Ok s
left s (Err e) = Err e

-- only tokens were added
pub record Adds (ts : List Token) (old new : Reading) : Type 0 where
  pub tokens : new.tokens.items ≡ old.tokens.items ++ ts
  pub bodies : new.bodies.items ≡ old.bodies.items
  pub pending : new.pending.items ≡ old.pending.items
  pub dollars : new.dollars.items ≡ old.dollars.items

-- a word or a quoted word was added
pub record AddsWord (quoted : Bool) (script : List ℕ) (prev after : Previous) (p q : Place)
    (old new : Reading) : Type 0 where
  pub tokens : new.tokens.items ≡ old.tokens.items ++ spans.word_tokens quoted prev p q
  pub bodies : new.bodies.items ≡ old.bodies.items
  pub pending : pending_in new ≡ spans.word_due quoted script prev p q (pending_in old)
  pub after_word : after ≡ spans.word_after quoted prev

-- the `$`s were added, as these
pub record PushedDollars (seen : List Token → List Token) (old new : Reading) : Type 0 where
  pub tokens : new.tokens.items ≡ old.tokens.items ++ seen old.dollars.items
  pub dollars : new.dollars.items ≡ []
  pub bodies : new.bodies.items ≡ old.bodies.items
  pub pending : new.pending.items ≡ old.pending.items

-- the state at the beginning of a line
abbrev pub line_of : List PendingHereDoc → ℕ → LexerState
line_of [] at = Between previous.Apart
line_of (d ∷ pending) at = Body at at
