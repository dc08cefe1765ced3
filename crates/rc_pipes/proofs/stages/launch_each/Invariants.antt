use Rattle.std.proofs.Common.{drop, option_map}
use Rattle.rc_model.specs.Run.Acts.{launch_stages, stages_from}
use Rattle.rc_model.specs.Run.Plans.{RanBetween}
use Rattle.rc_scope.specs.Children.{child_numbers}
use Rattle.rc_scope.specs.States.{state_of}
use Rattle.rc_tree.specs.View.{stages_tree}
use Rattle.rc_pipes.proofs.stages.launch_each.Given as goal

-- the stages before this one were started
abbrev pub invariant-loop-stage : goal.invariant-loop-stage
invariant-loop-stage g l =
    let s = state_of l.state in
    RanBetween (g.W.World.events l.initial.world) (g.W.World.events l.world) (launch_stages l.slots (stages_tree l.stages) s)
    (stages_from l.slots (stages_tree (drop l.stage-index l.stages)) (option_map (λ end. end.0) l.read) (child_numbers l.children.items) s)
