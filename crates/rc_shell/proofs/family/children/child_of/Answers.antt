use Rattle.std.proofs.Common.{sym, ap, subst}
use Rattle.rc_model.specs.Handed.Proper.{IsProperTree}
use Rattle.rc_model.specs.Run.State.{State}
use Rattle.rc_model.specs.Syntax.Tree.{Node, cmd}
use Rattle.rc_world.specs.Views.{launch_of}
use Rattle.rc_shell.proofs.Launches.{launch_proper}
use Rattle.rc_shell.proofs.family.children.child_of.Goals as goal

pub begin-requires : goal.begin-requires
begin-requires c =
    subst IsProperTree (ap (λ (read : Node cmd × State). read.0) (sym c.in_ok-cmd.ensures)) (launch_proper (launch_of c.in-Start-Child.launch))
