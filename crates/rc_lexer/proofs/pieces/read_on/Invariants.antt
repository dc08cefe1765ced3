use Rattle.std.proofs.Common.{◌-◌, length}
use Rattle.rc_lexer.specs.Reads.{HasRead}
use Rattle.rc_lexer.proofs.pieces.read_on.Given as goal

abbrev pub invariant-loop-place : goal.invariant-loop-place
invariant-loop-place l = HasRead l.text l.reading l.state l.place

abbrev pub decreases-loop-place : goal.decreases-loop-place
decreases-loop-place l = length l.text - l.place.byte
