use Rattle.std.proofs.Common.{[], length}
use Rattle.rc_model.specs.Code.Machine.{unwind}
use Rattle.rc_model.specs.Run.Plans.{RanBetween}
use Rattle.rc_scope.specs.Children.{child_numbers}
use Rattle.rc_scope.specs.States.{state_of}
use Rattle.rc_machine.specs.Configurations.{config_of}
use Rattle.rc_machine.proofs.configuration.Configuration.unwind.Given as goal

-- the end has come to what is left, with the children that are owed
abbrev pub invariant-loop-scope : goal.invariant-loop-scope
invariant-loop-scope g l = RanBetween (g.W.World.events l.initial.world) (g.W.World.events l.world)
    (unwind (config_of l.initial.self).scopes (state_of l.initial.self.state) [])
    (unwind (config_of l.self).scopes (state_of l.self.state) (child_numbers l.owed.items))

abbrev pub decreases-loop-scope : goal.decreases-loop-scope
decreases-loop-scope g l = length l.self.scopes
