use Rattle.rc_tree.specs.View.{cmd_tree}
use Rattle.rc_process.proofs.Leaving.{unused}
use Rattle.rc_process.proofs.leaving_after.Goals as goal

pub returns : goal.returns
returns c =
    unused c.all_but.result (cmd_tree c.args._cmd.now) c.args.covering.files c.args.covering.slots c.requires.files c.requires.slots c.all_but.ensures.files
    c.all_but.ensures.input c.all_but.ensures.output c.all_but.ensures.errors
