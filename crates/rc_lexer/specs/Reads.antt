-- The outcome of a reading, whatever follows.
use Rattle.std.specs.Prelude.{◌≡◌, ℕ, ◌+◌, ◌≤◌, List, [], ◌++◌, map, drop, length, Vec}
use Rattle.std.specs.Prelude.{Option, Some, None, Result, Ok, Err}
use Rattle.std.specs.Str.{IsUtf8}
use Rattle.rc_lexer.specs.Answers.{IsLexed, ScriptError}
use Rattle.rc_lexer.specs.declared.Token.{Token}
use Rattle.rc_model.specs.Syntax.Tokens as t
use Rattle.rc_model.specs.Mirrors.Reading as r
use Rattle.law_syntax.specs.ByteReading as bytes
use Rattle.rc_lexer.specs.Views.{slice_at, tokens_of}
use Rattle.rc_lexer.specs.SpanLaws.{state_of, due_of, Stands}
use Rattle.rc_lexer.specs.Machine.{pending_in, dollars_in}
use Rattle.rc_model.specs.declared.fault.SyntaxFault.{SyntaxFault}
use Rattle.rc_model.specs.declared.fault.InputError.TheVariants.{Fault, NoMemory}
use Rattle.rc_model.specs.declared.syntax.Place.{Place}
use Rattle.rc_model.specs.declared.syntax.Previous.TheVariants as previous
use Rattle.rc_lexer.specs.declared.lexer_state.LexerState.{LexerState}
use Rattle.rc_lexer.specs.declared.lexer_state.Reading.{Reading}

-- the outcome of the script, given what has been read of it
abbrev pub answers : List ℕ → Reading → LexerState → Place → t.Outcome
answers script reading s p =
    t.join (tokens_of script reading.tokens.items) (map (slice_at script) reading.bodies.items)
    (bytes.run (state_of script p.byte (dollars_in s reading) (pending_in reading) s) (due_of (pending_in reading) s) p
    (drop p.byte script))

-- the outcome of a whole script
abbrev pub whole : List ℕ → t.Outcome
whole script = bytes.run (r.Between previous.Apart) [] t.first_place script

-- The reading has read the text up to the place, and goes on with whatever follows as a reading of the whole would.
pub record HasRead (text : List ℕ) (reading : Reading) (s : LexerState) (p : Place) : Type 0 where
  pub so_far : (more : List ℕ) → answers (text ++ more) reading s p ≡ whole (text ++ more)
  pub within : p.byte ≤ length text
  pub stands : Stands text p.byte s
  pub lines : p.line ≤ p.byte + 1

-- the reading has reached the end of the text, or its first fault, or memory ran out
abbrev pub ReadsOn : List ℕ → Reading → Result (LexerState × Place) ScriptError → Type 0
ReadsOn text reading (Ok x) = HasRead text reading x.0 x.1 × (x.1.byte ≡ length text)
ReadsOn text reading (Err (Fault f)) = (more : List ℕ) → whole (text ++ more) ≡ Err f
ReadsOn text reading (Err NoMemory) = Unit {0}

-- what a reading that is left in this state at this place comes to
abbrev pub left_at : LexerState → Place → Result (Unit {0}) ScriptError → Result (LexerState × Place) ScriptError
left_at s p (Ok u) = Ok (s, p)
left_at s p (Err e) = Err e

-- a text is being read, or its first fault is found
abbrev pub IsReading : List ℕ → Reading → LexerState → Place → Option SyntaxFault → Type 0
IsReading text reading s p None = HasRead text reading s p
IsReading text reading s p (Some f) = (more : List ℕ) → whole (text ++ more) ≡ Err f

-- the outcome of the whole text, if there is no byte 0 in it, or memory ran out
abbrev pub HasOutcome : {Z : Type 0} → List ℕ → Result (Vec Token Z) ScriptError → Type 0
HasOutcome text (Ok tokens) = t.result_of (whole text) ≡ Ok (tokens_of text tokens.items)
HasOutcome text (Err (Fault f)) = t.result_of (whole text) ≡ Err f
HasOutcome text (Err NoMemory) = Unit {0}

-- The result of a finished text, if it is UTF-8: its tokens or its first fault, or memory ran out.
abbrev pub Finishes : {Z : Type 0} → List ℕ → Result (Vec Token Z) ScriptError → Type 0
Finishes {Z} text result = IsUtf8 text → IsLexed {Z = Z} text result
