use Rattle.std.proofs.Common.{rules, ◌≡◌, None, Some}
use Rattle.rc_model.specs.Syntax.Words.{word_texts}
use Rattle.rc_machine.specs.Lists.{two_of, below_two}
use Rattle.rc_machine.specs.Configurations.{config_of}
use Rattle.rc_machine.specs.Names.{read}
use Rattle.rc_machine.proofs.ExpressionActs.{selects_no_name}
use Rattle.rc_machine.proofs.Left.{steps_as}
use Rattle.rc_machine.proofs.Stacks.{two_topped}
use Rattle.rc_scope.specs.States.{state_of}
use Rattle.rc_machine.proofs.expressions.assignments.select.Goals as goal

pub returns-in_default-read : goal.returns-in_default-read
returns-in_default-read g c place counted =
    let m = c.args.machine.now in
    let start = record (config_of m) { counter = place } in
    let a = c.in-Some.words.now in
    let b = c.in-Some.field-0-1.now in
    let two : two_of m.words ≡ Some (a, b) = search rules in
    let none : read (state_of m.state) (word_texts a) ≡ None = search rules in
    steps_as _ _ _ _ _ _ (selects_no_name start a b (below_two m.words) (two_topped m.words a b two) none) c.fail_bad_name.ensures
