use Rattle.std.proofs.Common.{[], drop, string_bytes}
use Rattle.rc_model.specs.Run.Builtins.{wait_all}
use Rattle.rc_model.specs.Run.Plans.{RanBetween}
use Rattle.rc_model.specs.Run.State.{State}
use Rattle.rc_pipes.specs.Jobs.{with_jobs}
use Rattle.rc_scope.specs.Children.{child_numbers}
use Rattle.rc_pipes.proofs.jobs.wait_all.Given as goal

-- the children before this one were waited for
abbrev pub invariant-loop-child : goal.invariant-loop-child
invariant-loop-child g l = (s : State) →
    let left = child_numbers (drop l.child-index l.children) in
    RanBetween (g.W.World.events l.initial.world) (g.W.World.events l.world)
    (wait_all (child_numbers l.children) (with_jobs s [] (child_numbers l.children))) (wait_all left (with_jobs s (string_bytes l.status) left))
