use Rattle.rc_scope.proofs.ProperStates.{local_popped}
use Rattle.rc_scope.proofs.state.State.pop_local.Goals as goal

pub invariant_of-self : goal.invariant_of-self
invariant_of-self c =
    let s = c.args.self.now in
    record { proper = local_popped s.variables c.pop.new.self s.functions.entries s.proper c.pop.ensures.stacks }
