use Rattle.std.proofs.Common.{inl}
use Rattle.rc_cli.proofs.running.run_image.Goals as goal

pub returns-clause-meant : goal.returns-clause-meant
returns-clause-meant g c = inl (c.execute_image.result, c.execute_image.ensures, c.result_of.ensures.of_shell)
