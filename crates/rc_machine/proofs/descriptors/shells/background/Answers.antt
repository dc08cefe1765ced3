use Rattle.std.proofs.Common.{rules, ◌≡◌, Some}
use Rattle.rc_code.specs.Views.{tree_at}
use Rattle.rc_scope.specs.States.{state_of}
use Rattle.rc_tree.specs.View.{cmd_tree}
use Rattle.rc_machine.specs.Configurations.{config_of}
use Rattle.rc_machine.proofs.Left.{step_left}
use Rattle.rc_machine.proofs.Shells.{left_background, ran_background}
use Rattle.rc_machine.proofs.descriptors.shells.background.Goals as goal

pub returns-in_err-background : goal.returns-in_err-background
returns-in_err-background g c place counted =
    let m = c.args.machine.now in
    let start = record (config_of m) { counter = place } in
    let body = cmd_tree c.in-Some.body.now.value in
    let tree : tree_at start.code c.args.number ≡ Some body = search rules in
    let same : cmd_tree c.deref.result.now ≡ body = search rules in
    let own : c.slots-slots.result ≡ m.redirs.slots = search rules in
    step_left _ _ _ _ c.from_residual.result c.in_err-background.field-0.0 c.from_residual.ensures.1
    (left_background _ _ start c.args.number body tree c.in_err-background.field-0.0 (rw (own, same) at c.in_err-background.ensures.does))

pub returns : goal.returns
returns g c place counted =
    let m = c.args.machine.now in
    let start = record (config_of m) { counter = place } in
    let body = cmd_tree c.in-Some.body.now.value in
    let tree : tree_at start.code c.args.number ≡ Some body = search rules in
    let same : cmd_tree c.deref.result.now ≡ body = search rules in
    let own : c.slots-slots.result ≡ m.redirs.slots = search rules in
    rw counted (ran_background _ _ start c.args.number body tree (state_of c.background.new.state) (rw (own, same) at c.in_ok-background.ensures.does))
