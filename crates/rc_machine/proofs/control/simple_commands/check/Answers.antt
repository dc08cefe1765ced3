use Rattle.std.proofs.Common.{rules}
use Rattle.rc_machine.proofs.control.simple_commands.check.Goals as goal

pub returns : goal.returns
returns g c = search rules
