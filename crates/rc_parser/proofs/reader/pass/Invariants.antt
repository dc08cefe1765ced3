use Rattle.std.proofs.Common.{take}
use Rattle.rc_parser.proofs.Kept.{HasPassed}
use Rattle.rc_parser.proofs.reader.pass.Given as goal

-- the piece passed so far
abbrev pub invariant-loop-b : goal.invariant-loop-b
invariant-loop-b l = HasPassed (λ s. s.value) l.initial.passed.items l.passed.items (take l.b-index l.piece)
