use Rattle.rc_builtin.proofs.Evals.{faults_without_trees}
use Rattle.rc_builtin.proofs.scripts.syntax_errors_are_first_faults.Goals as goal

pub returns : goal.returns
returns c = faults_without_trees
