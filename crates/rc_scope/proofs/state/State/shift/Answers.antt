use Rattle.std.proofs.Common.{codes, refl}
use Rattle.rc_scope.proofs.ProperStates.{by_result, nothing_set, value_set}
use Rattle.rc_scope.proofs.state.State.shift.Goals as goal

pub invariant_of-self : goal.invariant_of-self
invariant_of-self c =
    let s = c.args.self.now in
    let fs = s.functions.entries in
    record {
      proper = by_result c.drop_first.result c.drop_first.ensures.ok c.drop_first.ensures.err
          (λ e. value_set s.variables c.drop_first.new.self fs (codes "*") _ s.proper refl refl e)
          (λ e. nothing_set s.variables c.drop_first.new.self fs s.proper e);
    }
