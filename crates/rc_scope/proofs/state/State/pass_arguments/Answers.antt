use Rattle.std.proofs.Common.{codes, refl}
use Rattle.rc_model.specs.Run.State.{visible}
use Rattle.rc_scope.specs.Stacks.{stacks_of, stack_in}
use Rattle.rc_scope.proofs.ProperStates.{by_result, nothing_set, local_pushed}
use Rattle.rc_scope.proofs.state.State.pass_arguments.Goals as goal

pub invariant_of-self : goal.invariant_of-self
invariant_of-self c =
    let s = c.args.self.now in
    let fs = s.functions.entries in
    record {
      proper = by_result c.push_visible.result c.push_visible.ensures.ok c.push_visible.ensures.err
          (λ e. local_pushed s.variables c.push_visible.new.self fs (codes "*") (visible (stack_in (stacks_of s.variables) (codes "*"))) s.proper refl refl e)
          (λ e. nothing_set s.variables c.push_visible.new.self fs s.proper e);
    }
