use Rattle.rc_world.specs.declared.starts.Stop.TheVariants.{NoMemory}
use Rattle.rc_world.proofs.Joins.{left_here, passed_up}
use Rattle.law_plans.proofs.Runs.{ran_none}
use Rattle.rc_builtin.proofs.wait.wait.Goals as goal

pub returns-in_err-misuse-in_default-clause-does : goal.returns-in_err-misuse-in_default-clause-does
returns-in_err-misuse-in_default-clause-does g c =
    passed_up _ _ _ _ c.from_residual.result NoMemory c.from_residual.ensures.1 (left_here _ _ _ _ (ran_none _ _))
