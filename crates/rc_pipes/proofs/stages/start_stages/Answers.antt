use Rattle.std.proofs.Common.{sym}
use Rattle.rc_world.specs.declared.starts.Stop.TheVariants.{NoMemory}
use Rattle.rc_world.proofs.Joins.{left_here, passed_up}
use Rattle.law_plans.proofs.Runs.{ran_none}
use Rattle.rc_pipes.proofs.stages.start_stages.Goals as goal

pub returns-in_err-keep_entries-clause-launched : goal.returns-in_err-keep_entries-clause-launched
returns-in_err-keep_entries-clause-launched g c = passed_up _ _ _ _ c.from_residual.result NoMemory c.from_residual.ensures.1 (left_here _ _ _ _ (ran_none _ _))

pub returns-clause-launched : goal.returns-clause-launched
returns-clause-launched g c = rw (sym c.keep_entries.ensures) c.launch_each.ensures
