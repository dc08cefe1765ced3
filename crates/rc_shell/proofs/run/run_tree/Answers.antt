use Rattle.rc_scope.specs.States.{state_of}
use Rattle.rc_tree.specs.View.{cmd_tree}
use Rattle.rc_shell.proofs.Runs.{recorded_nothing}
use Rattle.rc_shell.proofs.run.run_tree.Goals as goal

pub returns-in_default : goal.returns-in_default
returns-in_default g c = let before = g.W.World.events c.args.world.now in recorded_nothing c.args.limit (cmd_tree c.args.cmd) (state_of c.args.state) before before

pub returns : goal.returns
returns g c = c.run_code.ensures (cmd_tree c.args.cmd) c.in-Ok.ensures
