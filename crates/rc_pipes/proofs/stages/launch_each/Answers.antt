use Rattle.std.proofs.Common.{◌≡◌, ◌+◌, [], ◌∷◌, ◌++◌, drop, option_map, arith}
use Rattle.std.proofs.lemmas.Grind.{common_steps}
use Rattle.rc_scope.specs.Children.{child_numbers}
use Rattle.rc_scope.specs.States.{state_of}
use Rattle.rc_tree.specs.View.{stages_tree}
use Rattle.rc_world.specs.declared.starts.Stop.TheVariants.{NoMemory}
use Rattle.rc_world.proofs.Joins.{given_up, left_here}
use Rattle.law_plans.proofs.Runs.{ran_none}
use Rattle.rc_pipes.proofs.Pipelines.{next_started, next_refused, next_left, row_started}
use Rattle.rc_pipes.proofs.stages.launch_each.Goals as goal

pub returns-in_err-children : goal.returns-in_err-children
returns-in_err-children g c =
    given_up _ _ _ _ c.from_residual.result NoMemory c.from_residual.ensures.1 (left_here _ _ _ _ (ran_none _ _))

pub returns-in_err-read_end : goal.returns-in_err-read_end
returns-in_err-read_end g c =
    let s = state_of c.args.state.now in
    let all = stages_tree c.args.stages.now in
    let rest = stages_tree (drop (c.loop-stage.stage-index + 1) c.args.stages.now) in
    let before = option_map (λ end. end.0) c.loop-stage.read in
    let children = child_numbers c.loop-stage.children.items in
    given_up _ _ _ _ c.from_residual-in_err-read_end.result c.in_err-read_end.field-0.0 c.from_residual-in_err-read_end.ensures.1
    (next_left c.args.slots s _ _ all before children c.args.stages.now c.loop-stage.stage-index c.loop-stage.invariant
    c.stage-item.result _ c.loop-stage-test.true c.stage-item.is _ (c.in_err-read_end.ensures rest children))

pub returns-in_err-push-in-Running : goal.returns-in_err-push-in-Running
returns-in_err-push-in-Running g c =
    let s = state_of c.args.state.now in
    let all = stages_tree c.args.stages.now in
    let rest = stages_tree (drop (c.loop-stage.stage-index + 1) c.args.stages.now) in
    let before = option_map (λ end. end.0) c.loop-stage.read in
    let children = child_numbers c.loop-stage.children.items in
    let started = next_started c.args.slots s _ _ all before children c.args.stages.now c.loop-stage.stage-index c.loop-stage.invariant
    c.stage-item.result _ c.loop-stage-test.true c.stage-item.is
    c.in-Running.read_end.0 c.in-Running.child.0 (rw c.in-Running.is at (c.in_ok-read_end.ensures rest children)) in
    given_up _ _ _ _ c.from_residual-in_err-push-in-Running.result NoMemory c.from_residual-in_err-push-in-Running.ensures.1
    (left_here _ _ _ _ started)

pub returns-in-Refused : goal.returns-in-Refused
returns-in-Refused g c =
    let s = state_of c.args.state.now in
    let all = stages_tree c.args.stages.now in
    let rest = stages_tree (drop (c.loop-stage.stage-index + 1) c.args.stages.now) in
    let before = option_map (λ end. end.0) c.loop-stage.read in
    let children = child_numbers c.loop-stage.children.items in
    next_refused c.args.slots s _ _ all before children c.args.stages.now c.loop-stage.stage-index c.loop-stage.invariant
    c.stage-item.result _ c.loop-stage-test.true c.stage-item.is
    c.in-Refused.why.now (rw c.in-Refused.is at (c.in_ok-read_end.ensures rest children))

pub loop-stage-preserved : goal.loop-stage-preserved
loop-stage-preserved g c =
    let s = state_of c.args.state.now in
    let all = stages_tree c.args.stages.now in
    let rest = stages_tree (drop (c.loop-stage.stage-index + 1) c.args.stages.now) in
    let before = option_map (λ end. end.0) c.loop-stage.read in
    let children = child_numbers c.loop-stage.children.items in
    let more : child_numbers c.push.new.self.items ≡ children ++ c.in-Running.child.0 ∷ [] = grind (arith, common_steps) in
    rw more
    (next_started c.args.slots s _ _ all before children c.args.stages.now c.loop-stage.stage-index c.loop-stage.invariant
    c.stage-item.result _ c.loop-stage-test.true c.stage-item.is
    c.in-Running.read_end.0 c.in-Running.child.0 (rw c.in-Running.is at (c.in_ok-read_end.ensures rest children)))

pub returns : goal.returns
returns g c =
    let s = state_of c.args.state.now in
    let all = stages_tree c.args.stages.now in
    let before = option_map (λ end. end.0) c.loop-stage.read in
    let children = child_numbers c.loop-stage.children.items in
    row_started c.args.slots s _ _ all before children c.args.stages.now c.loop-stage.stage-index c.loop-stage.invariant c.loop-stage-test.false
