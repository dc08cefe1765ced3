use Rattle.std.proofs.Common.{rules, ◌≡◌, Some, false}
use Rattle.rc_code.specs.Views.{tree_at}
use Rattle.rc_model.specs.Syntax.Words.{word_texts}
use Rattle.rc_scope.specs.States.{state_of}
use Rattle.rc_machine.specs.Lists.{top_of}
use Rattle.rc_tree.specs.View.{cmd_tree}
use Rattle.rc_machine.specs.Calls.{Defines}
use Rattle.rc_machine.specs.Configurations.{config_of}
use Rattle.rc_machine.proofs.Defining.{defines_no_name}
use Rattle.rc_machine.proofs.Left.{steps_as}
use Rattle.rc_machine.proofs.Stacks.{topped}
use Rattle.rc_machine.proofs.control.function_calls.define.Goals as goal

pub returns-then-not-branch : goal.returns-then-not-branch
returns-then-not-branch g c place counted =
    let m = c.args.machine.now in
    let start = record (config_of m) { counter = place } in
    let v = c.in-Some.words.now in
    let body = cmd_tree c.in-Some-tree.body.now.value in
    let top : top_of m.words ≡ Some v = search rules in
    let tree : tree_at (config_of m).code c.args.number ≡ Some body = search rules in
    let after = state_of c.define_each.new.state in
    let refused : Defines (word_texts v) body (state_of m.state) after false = search rules in
    steps_as _ _ _ _ _ _ (defines_no_name start c.args.number v _ body after (topped m.words v top) tree refused) c.fail_bad_name.ensures
