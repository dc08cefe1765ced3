use Rattle.std.proofs.Common.{rules, ◌≡◌, ◌∷◌, Some, sym, subst}
use Rattle.rc_code.specs.Views.{tree_at}
use Rattle.rc_model.specs.Code.Layout.{Back}
use Rattle.rc_model.specs.Code.Machine.{On, act, next}
use Rattle.rc_model.specs.Run.Plans.{RanBetween, done_with}
use Rattle.rc_model.specs.Syntax.Words.{plain_words}
use Rattle.rc_scope.specs.States.{state_of}
use Rattle.rc_tree.specs.View.{cmd_tree}
use Rattle.rc_world.specs.Comes.{for_memory}
use Rattle.rc_world.specs.declared.starts.Stop.TheVariants.{NoMemory}
use Rattle.rc_machine.specs.Configurations.{config_of}
use Rattle.rc_machine.proofs.Left.{step_left}
use Rattle.rc_machine.proofs.Shells.{backed, left_back}
use Rattle.rc_machine.proofs.descriptors.shells.back.Goals as goal

pub returns-in_err-output : goal.returns-in_err-output
returns-in_err-output g c place counted =
    let m = c.args.machine.now in
    let start = record (config_of m) { counter = place } in
    let body = cmd_tree c.in-Some.body.now.value in
    let tree : tree_at start.code c.args.number ≡ Some body = search rules in
    let same : cmd_tree c.deref.result.now ≡ body = search rules in
    let own : c.slots-slots.result ≡ m.redirs.slots = search rules in
    step_left _ _ _ _ c.from_residual.result c.in_err-output.field-0.0 c.from_residual.ensures.1
    (left_back _ _ start c.args.number body tree c.in_err-output.field-0.0 (rw (own, same) at c.in_err-output.ensures.does))

pub returns-in_err-put_members : goal.returns-in_err-put_members
returns-in_err-put_members g c place counted =
    let m = c.args.machine.now in
    let start = record (config_of m) { counter = place } in
    let body = cmd_tree c.in-Some.body.now.value in
    let tree : tree_at start.code c.args.number ≡ Some body = search rules in
    let same : cmd_tree c.deref.result.now ≡ body = search rules in
    let own : c.slots-slots.result ≡ m.redirs.slots = search rules in
    step_left _ _ _ _ c.from_residual-in_err-put_members.result NoMemory c.from_residual-in_err-put_members.ensures.1
    (for_memory _ (backed _ _ start c.args.number body tree _ (state_of c.backquote.new.state) (rw (own, same) at c.in_ok-output.ensures.does)))

pub returns : goal.returns
returns g c place counted =
    let m = c.args.machine.now in
    let start = record (config_of m) { counter = place } in
    let t = state_of c.backquote.new.state in
    let body = cmd_tree c.in-Some.body.now.value in
    let members = c.in_ok-output.output in
    let tree : tree_at start.code c.args.number ≡ Some body = search rules in
    let same : cmd_tree c.deref.result.now ≡ body = search rules in
    let own : c.slots-slots.result ≡ m.redirs.slots = search rules in
    let put : c.put_members.new.words ≡ plain_words members ∷ m.words = search rules in
    rw counted (subst (λ ws. RanBetween (g.W.World.events c.args.world.now) (g.W.World.events c.backquote.new.world) (act (Some (Back c.args.number)) start) (done_with (On (next start ws t)))) (sym put)
    (backed _ _ start c.args.number body tree members t (rw (own, same) at c.in_ok-output.ensures.does)))
