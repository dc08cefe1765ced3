use Rattle.rc_tree.specs.View.{cmd_tree}
use Rattle.rc_process.proofs.Leaving.{unused_none}
use Rattle.rc_process.proofs.leaving_under.Goals as goal

pub returns-in-None : goal.returns-in-None
returns-in-None c = unused_none c.never.result (cmd_tree c.args.cmd.now) c.never.ensures
