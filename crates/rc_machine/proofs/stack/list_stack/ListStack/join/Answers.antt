use Rattle.std.proofs.Common.{arith, reverse}
use Rattle.std.proofs.lemmas.List.{length-reverse}
use Rattle.rc_machine.proofs.Places.{not_joined, popped, popped_starts}
use Rattle.rc_machine.proofs.stack.list_stack.ListStack.join.Goals as goal

pub returns-then-len-lt2 : goal.returns-then-len-lt2
returns-then-len-lt2 g c =
    rw (← c.self.view_is) (not_joined c.self.inside.items.items (reverse c.self.inside.starts.items) (omega (arith, length-reverse c.self.inside.starts.items)))

pub invariant_of-self : goal.invariant_of-self
invariant_of-self g c =
    popped_starts c.self.inside.items.items _ _ _ c.pop.ensures.items (c.pop.ensures.variant.1 (omega arith)) c.self.invariant

pub returns : goal.returns
returns g c =
    rw (← c.self.view_is) (popped c.self.inside.items.items _ _ _ c.pop.ensures.items (c.pop.ensures.variant.1 (omega arith)) (omega arith) c.self.invariant)
