use Rattle.std.proofs.Common.{◌∷◌, [], arith, reverse, length-append}
use Rattle.rc_machine.proofs.Places.{starts_within, extended}
use Rattle.rc_machine.proofs.stack.list_stack.ListStack.push.Goals as goal

pub invariant_of-self-2 : goal.invariant_of-self-2
invariant_of-self-2 g c =
    rw c.in_ok-push.ensures.items (starts_within (reverse c.self.inside.starts.items) c.self.invariant (omega (arith, length-append c.self.inside.items.items (c.args.item ∷ []))))

pub returns : goal.returns
returns g c = record {
  ok =
      rw (c.in_ok-push.ensures.items, ← c.self.view_is) (extended c.self.inside.items.items (c.args.item ∷ []) (reverse c.self.inside.starts.items) c.self.invariant);
  err = tt;
}
