use Rattle.std.proofs.Common.{◌-◌, ◌≤◌, length}
use Rattle.rc_lexer.specs.Reads.{HasRead}
use Rattle.rc_lexer.specs.declared.lexer_state.LexerState.TheVariants as state
use Rattle.rc_lexer.proofs.plain.word_end.Given as goal

abbrev pub invariant-loop-place : goal.invariant-loop-place
invariant-loop-place l = record { read : HasRead l.text l.reading (state.Word l.fn.start) l.place; on : l.fn.place.byte ≤ l.place.byte }

abbrev pub decreases-loop-place : goal.decreases-loop-place
decreases-loop-place l = length l.text - l.place.byte
