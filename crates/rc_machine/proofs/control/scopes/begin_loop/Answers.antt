use Rattle.std.proofs.Common.{rules, ◌≡◌, None, Some}
use Rattle.rc_model.specs.Run.State.{is_name}
use Rattle.rc_model.specs.Syntax.Words.{word_texts}
use Rattle.rc_machine.specs.Lists.{two_of, below_two}
use Rattle.rc_machine.specs.Configurations.{config_of}
use Rattle.rc_machine.specs.Names.{the_name}
use Rattle.rc_machine.proofs.ControlActs.{loops_no_name}
use Rattle.rc_machine.proofs.Left.{steps_as}
use Rattle.rc_machine.proofs.Stacks.{two_topped}
use Rattle.rc_machine.proofs.control.scopes.begin_loop.Goals as goal

pub returns-in_default-variable_name : goal.returns-in_default-variable_name
returns-in_default-variable_name g c place counted =
    let m = c.args.machine.now in
    let start = record (config_of m) { counter = place } in
    let a = c.in-Some.field-0-0.now in
    let b = c.in-Some.words.now in
    let two : two_of m.words ≡ Some (a, b) = search rules in
    let none : the_name is_name (word_texts b) ≡ None = search rules in
    steps_as _ _ _ _ _ _ (loops_no_name start a b (below_two m.words) (two_topped m.words a b two) none) c.fail_bad_name.ensures
