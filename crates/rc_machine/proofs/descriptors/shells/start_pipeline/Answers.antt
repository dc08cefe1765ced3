use Rattle.std.proofs.Common.{rules, ◌≡◌, ◌∙◌, ap, Some, option_map, sym, subst}
use Rattle.rc_code.specs.Views.{stages_at}
use Rattle.rc_model.specs.Code.Layout.{Stages}
use Rattle.rc_model.specs.Code.Machine.{Config, On, act}
use Rattle.rc_model.specs.Run.Plans.{RanBetween, done_with}
use Rattle.rc_pipes.specs.Stages.{launched_of}
use Rattle.rc_scope.specs.Children.{child_numbers}
use Rattle.rc_scope.specs.States.{state_of}
use Rattle.rc_tree.specs.View.{stages_tree}
use Rattle.rc_world.specs.Comes.{for_memory}
use Rattle.rc_world.specs.declared.starts.Stop.TheVariants.{NoMemory}
use Rattle.rc_machine.specs.Configurations.{config_of}
use Rattle.rc_machine.specs.Pipelines.{last_begun}
use Rattle.rc_machine.proofs.Left.{step_left}
use Rattle.rc_machine.proofs.Shells.{last_begins, left_refused, left_starts, refused}
use Rattle.rc_machine.proofs.descriptors.shells.start_pipeline.Goals as goal

pub returns-in_err-launched : goal.returns-in_err-launched
returns-in_err-launched g c place counted =
    let m = c.args.machine.now in
    let start = record (config_of m) { counter = place } in
    let stages = stages_tree c.in-Some.stages.now in
    let are : stages_at start.code c.args.number ≡ Some stages = search rules in
    let own : c.slots-slots.result ≡ m.redirs.slots = search rules in
    step_left _ _ _ _ c.from_residual.result c.in_err-launched.field-0.0 c.from_residual.ensures.1
    (left_starts _ _ start c.args.number c.args.end stages are c.in_err-launched.field-0.0 (rw own at c.in_err-launched.ensures.launched))

pub returns-in_err-begin_last-in-Running : goal.returns-in_err-begin_last-in-Running
returns-in_err-begin_last-in-Running g c place counted =
    let m = c.args.machine.now in
    let start = record (config_of m) { counter = place } in
    let stages = stages_tree c.in-Some.stages.now in
    let launched = c.in_ok-launched.launched in
    let read_end = option_map (λ end. end.0) c.in-Running.read_end in
    let are : stages_at start.code c.args.number ≡ Some stages = search rules in
    let own : c.slots-slots.result ≡ m.redirs.slots = search rules in
    step_left _ _ _ _ c.from_residual-in_err-begin_last-in-Running.result NoMemory c.from_residual-in_err-begin_last-in-Running.ensures.1
    (for_memory _ (last_begins _ _ start c.args.number c.args.end stages are launched (rw own at c.in_ok-launched.ensures.launched)
    read_end (child_numbers c.in-Running.children.items) (ap launched_of c.in-Running.is)))

pub returns-in_ok-begin_last-in-Running : goal.returns-in_ok-begin_last-in-Running
returns-in_ok-begin_last-in-Running g c place counted =
    let m = c.args.machine.now in
    let start = record (config_of m) { counter = place } in
    let stages = stages_tree c.in-Some.stages.now in
    let launched = c.in_ok-launched.launched in
    let read_end = option_map (λ end. end.0) c.in-Running.read_end in
    let children = child_numbers c.in-Running.children.items in
    let are : stages_at start.code c.args.number ≡ Some stages = search rules in
    let own : c.slots-slots.result ≡ m.redirs.slots = search rules in
    subst (λ (z : Config). RanBetween (g.W.World.events c.args.world.now) (g.W.World.events c.start_stages.new.world) (act (Some (Stages c.args.number c.args.end)) start) (done_with (On z)))
    (sym (c.in_ok-begin_last-in-Running.ensures ∙ ap (λ t. last_begun (record (config_of m) { state = t }) read_end children) c.start_stages.ensures.same
    ∙ ap (λ n. last_begun (record (config_of m) { counter = n }) read_end children) counted))
    (last_begins _ _ start c.args.number c.args.end stages are launched (rw own at c.in_ok-launched.ensures.launched)
    read_end children (ap launched_of c.in-Running.is))

pub returns-in_err-end_refused-in-Refused : goal.returns-in_err-end_refused-in-Refused
returns-in_err-end_refused-in-Refused g c place counted =
    let m = c.args.machine.now in
    let start = record (config_of m) { counter = place } in
    let stages = stages_tree c.in-Some.stages.now in
    let launched = c.in_ok-launched.launched in
    let are : stages_at start.code c.args.number ≡ Some stages = search rules in
    let own : c.slots-slots.result ≡ m.redirs.slots = search rules in
    let all : c.deref.result.now ≡ c.in-Refused.children.items = c.deref.ensures.value in
    let same : state_of c.start_stages.new.state ≡ state_of m.state = c.start_stages.ensures.same in
    step_left _ _ _ _ c.from_residual-in_err-end_refused-in-Refused.result c.in_err-end_refused-in-Refused.field-0.0 c.from_residual-in_err-end_refused-in-Refused.ensures.1
    (left_refused _ _ start c.args.number c.args.end stages are launched (rw own at c.in_ok-launched.ensures.launched) _
    (child_numbers c.in-Refused.children.items) c.in-Refused.why.now (ap launched_of c.in-Refused.is)
    c.in_err-end_refused-in-Refused.field-0.0 (rw (all, same) at c.in_err-end_refused-in-Refused.ensures.does))

pub returns-in_ok-end_refused-in-Refused : goal.returns-in_ok-end_refused-in-Refused
returns-in_ok-end_refused-in-Refused g c place counted =
    let m = c.args.machine.now in
    let start = record (config_of m) { counter = place } in
    let stages = stages_tree c.in-Some.stages.now in
    let launched = c.in_ok-launched.launched in
    let are : stages_at start.code c.args.number ≡ Some stages = search rules in
    let own : c.slots-slots.result ≡ m.redirs.slots = search rules in
    let all : c.deref.result.now ≡ c.in-Refused.children.items = c.deref.ensures.value in
    let same : state_of c.start_stages.new.state ≡ state_of m.state = c.start_stages.ensures.same in
    refused _ _ start c.args.number c.args.end stages are launched (rw own at c.in_ok-launched.ensures.launched) _
    (child_numbers c.in-Refused.children.items) c.in-Refused.why.now (ap launched_of c.in-Refused.is)
    (state_of c.end_refused.new.state) (rw (all, same) at c.in_ok-end_refused-in-Refused.ensures.does)
