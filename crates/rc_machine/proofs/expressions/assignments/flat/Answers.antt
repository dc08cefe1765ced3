use Rattle.std.proofs.Common.{rules, ◌≡◌, ◌∷◌, [], None, Some, drop}
use Rattle.rc_model.specs.Syntax.Text.{spaced}
use Rattle.rc_model.specs.Syntax.Words.{word_texts}
use Rattle.rc_machine.specs.Lists.{top_of}
use Rattle.rc_machine.specs.Configurations.{config_of}
use Rattle.rc_machine.specs.Names.{read}
use Rattle.rc_machine.proofs.ExpressionActs.{reads_no_name}
use Rattle.rc_machine.proofs.Left.{steps_as}
use Rattle.rc_machine.proofs.Stacks.{topped}
use Rattle.rc_scope.specs.States.{state_of}
use Rattle.rc_machine.proofs.expressions.assignments.flat.Goals as goal

pub returns-in_default-read : goal.returns-in_default-read
returns-in_default-read g c place counted =
    let m = c.args.machine.now in
    let start = record (config_of m) { counter = place } in
    let v = c.in-Some.words.now in
    let top : top_of m.words ≡ Some v = search rules in
    let none : read (state_of m.state) (word_texts v) ≡ None = search rules in
    steps_as _ _ _ _ _ _ (reads_no_name (λ z. spaced z ∷ []) start v (drop 1 m.words) (topped m.words v top) none) c.fail_bad_name.ensures
