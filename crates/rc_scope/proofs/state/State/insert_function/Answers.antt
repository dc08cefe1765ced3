use Rattle.std.proofs.Common.{IsTrue, string_bytes}
use Rattle.rc_model.specs.Run.State.{is_function_name}
use Rattle.rc_scope.proofs.ProperStates.{by_result, function_put, functions_kept}
use Rattle.rc_scope.proofs.state.State.insert_function.Goals as goal

pub invariant_of-self : goal.invariant_of-self
invariant_of-self c =
    let s = c.args.self.now in
    let es = s.functions.entries in
    let fs = c.insert.new.self.entries in
    let name = c.in_ok-name.name in
    let named : IsTrue (is_function_name (string_bytes name)) = rw c.in_ok-name.ensures.ok c.requires.name in
    record {
      proper = by_result c.insert.result c.insert.ensures.entries c.insert.ensures.err
          (λ e. function_put s.variables es fs name c.args.function s.proper named c.requires.body e)
          (λ e. functions_kept s.variables es fs s.proper e);
    }
