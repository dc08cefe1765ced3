use Rattle.rc_scope.proofs.ProperStates.{nothing_set}
use Rattle.rc_scope.proofs.state.State.unkept.Goals as goal

pub invariant_of-self : goal.invariant_of-self
invariant_of-self c =
    let s = c.args.self.now in
    record { proper = nothing_set s.variables c.unkept-2.new.self s.functions.entries s.proper c.unkept-2.ensures.stacks }
