use Rattle.rc_machine.specs.Configurations.{config_of}
use Rattle.rc_machine.proofs.Unwinding.{EndedSoFar}
use Rattle.rc_machine.proofs.control.scopes.end_locals.Given as goal

-- as many locals ended as the counter says
abbrev pub invariant-loop : goal.invariant-loop
invariant-loop l = EndedSoFar l.counter (config_of l.initial.machine) (config_of l.machine)
