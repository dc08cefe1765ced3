use Rattle.std.proofs.Common.{length}
use Rattle.rc_machine.proofs.Stacks.{HasPut}
use Rattle.rc_machine.proofs.configuration.lookups.put_members.Given as goal

abbrev pub invariant-loop-member : goal.invariant-loop-member
invariant-loop-member l = HasPut l.members l.output l.fn.words l.words

abbrev pub decreases-loop-member : goal.decreases-loop-member
decreases-loop-member l = length l.members
