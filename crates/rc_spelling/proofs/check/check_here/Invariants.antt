use Rattle.std.proofs.Common.{◌≡◌, ◌-◌}
use Rattle.rc_spelling.specs.Rests.{past_each, past_here, past_piece}
use Rattle.rc_spelling.proofs.check.check_here.Given as goal

abbrev pub invariant-loop : goal.invariant-loop
invariant-loop l = past_each past_piece (l.count - l.counter) l.rest ≡ past_here l.bytes
