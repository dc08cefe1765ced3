use Rattle.std.proofs.Common.{◌≡◌, ap, ◌∙◌, length, codes, arith}
use Rattle.std.proofs.lemmas.Grind.{common_steps}
use Rattle.std.proofs.lemmas.Result.{on_ok_weaker}
use Rattle.rc_model.specs.Run.State.{set_value}
use Rattle.rc_scope.specs.States.{state_of}
use Rattle.rc_image.proofs.States.{no_arguments, some_arguments}
use Rattle.rc_image.proofs.read_handed.set_arguments.Goals as goal

pub returns-then-is_empty : goal.returns-then-is_empty
returns-then-is_empty c =
    let none : length c.args.args.now ≡ 0 = grind (arith, common_steps) in
    no_arguments (state_of c.args.state.now) c.args.args.now none

pub returns : goal.returns
returns c =
    let some : length c.args.args.now ≡ 0 → ⊥ = λ z. grind (arith, common_steps, z) in
    on_ok_weaker c.set_value.result
    (λ d. d ∙ ap (set_value (state_of c.args.state.now) (codes "*")) c.in_ok-texts_of.ensures ∙ some_arguments (state_of c.args.state.now) c.args.args.now some)
    c.set_value.ensures
