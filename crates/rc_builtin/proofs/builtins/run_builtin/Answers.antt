use Rattle.std.proofs.Common.{rules, ◌≡◌, ◌∙◌, ap, Ok, map, sym}
use Rattle.rc_text.specs.Texts.{text_bytes}
use Rattle.rc_model.specs.Run.Builtins.{run_builtin}
use Rattle.rc_model.specs.declared.builtin.Builtin.TheVariants.{Eval}
use Rattle.rc_scope.specs.States.{state_of}
use Rattle.rc_builtin.proofs.Left.{words_as}
use Rattle.rc_builtin.proofs.builtins.run_builtin.Goals as goal

pub returns-in-Eval-clause-runs : goal.returns-in-Eval-clause-runs
returns-in-Eval-clause-runs g c again =
    let s = state_of c.args.state.now in
    let slots = c.args.slots in
    let is : c.args.builtin ≡ Eval = search rules in
    let lent : c.deref.result.now ≡ c.args.args.items = search rules in
    let recorded = g.W.World.events c.args.world.now in
    words_as recorded recorded _ _ (state_of c.eval.new.state) (Ok c.in_ok-eval-in-Eval.field-0)
    (ap (λ b. run_builtin again slots b (map text_bytes c.args.args.items) s) is ∙ ap (λ ws. run_builtin again slots Eval (map text_bytes ws) s) (sym lent))
    (c.in_ok-eval-in-Eval.ensures.ok recorded)
