use Rattle.rc_cli.proofs.Launched as launched
use Rattle.rc_cli.proofs.laws.launches_are_run.Goals as goal

pub returns-clause-options : goal.returns-clause-options
returns-clause-options c = launched.options_are_alike

pub returns-clause-run : goal.returns-clause-run
returns-clause-run c = launched.launches_are_run
