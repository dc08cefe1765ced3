use Rattle.rc_machine.specs.Configurations.{config_of}
use Rattle.rc_machine.proofs.Redirected.{EndedSoFar}
use Rattle.rc_machine.proofs.descriptors.open_redirections.end_redirections.Given as goal

-- as many redirections ended as the counter says
abbrev pub invariant-loop : goal.invariant-loop
invariant-loop g l = EndedSoFar (g.W.World.events l.initial.world) (g.W.World.events l.world) l.counter (config_of l.initial.machine) (config_of l.machine)
