use Rattle.std.proofs.Common.{map, drop, string_bytes}
use Rattle.rc_model.specs.Run.State.{State}
use Rattle.rc_pipes.proofs.Waits.{HasWaited}
use Rattle.rc_pipes.proofs.child_statuses.wait_stages.Given as goal
use Rattle.rc_scope.specs.Children.{child_numbers}

-- the children before this one were waited for
abbrev pub invariant-loop-child : goal.invariant-loop-child
invariant-loop-child g l =
    (s : State) → HasWaited s (g.W.World.events l.initial.world) (g.W.World.events l.world)
    (child_numbers l.children) (child_numbers (drop l.child-index l.children)) (map string_bytes l.statuses.items)
