use Rattle.rc_cli.proofs.Refused as refused
use Rattle.rc_cli.proofs.laws.first_faults_are_errors.Goals as goal

pub returns : goal.returns
returns c = refused.first_faults_are_errors
