use Rattle.std.proofs.Common.{drop}
use Rattle.rc_model.specs.Code.Machine.{end_waits}
use Rattle.rc_model.specs.Run.Plans.{RanBetween}
use Rattle.rc_model.specs.Run.State.{State}
use Rattle.rc_machine.proofs.configuration.endings.wait_owed.Given as goal
use Rattle.rc_scope.specs.Children.{child_numbers}

-- the waits that are left
abbrev pub invariant-loop-child : goal.invariant-loop-child
invariant-loop-child g l = (s : State) → RanBetween (g.W.World.events l.initial.world) (g.W.World.events l.world)
    (end_waits (child_numbers l.owed) s) (end_waits (child_numbers (drop l.child-index l.owed)) s)
