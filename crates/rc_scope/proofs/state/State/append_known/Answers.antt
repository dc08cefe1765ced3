use Rattle.std.proofs.Common.{rules, ◌≡◌, IsTrue, false, ◌∷◌, ◌++◌, [], sym, ◌∙◌}
use Rattle.std.specs.Str.{bytes_eq}
use Rattle.rc_model.specs.Run.State.{is_name, status_name, visible}
use Rattle.rc_text.specs.Texts.{text_bytes}
use Rattle.rc_scope.specs.Stacks.{stacks_of, stack_in}
use Rattle.rc_scope.proofs.ProperStates.{by_result, nothing_set, value_set}
use Rattle.rc_scope.proofs.state.State.append_known.Goals as goal

pub invariant_of-self : goal.invariant_of-self
invariant_of-self c =
    let s = c.args.self.now in
    let fs = s.functions.entries in
    let name = c.args.variable.now in
    let named : IsTrue (is_name name) = search rules in
    let other : bytes_eq name status_name ≡ false = sym c.is_status.ensures ∙ c.if-is_status.false in
    record {
      proper = by_result c.append.result c.append.ensures.ok c.append.ensures.err
          (λ e. value_set s.variables c.append.new.self fs name (visible (stack_in (stacks_of s.variables) name) ++ text_bytes c.args.text ∷ []) s.proper named other e)
          (λ e. nothing_set s.variables c.append.new.self fs s.proper e);
    }
