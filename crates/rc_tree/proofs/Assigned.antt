-- The trees of assignments, without a command and with one.
use Rattle.std.specs.Prelude.{◌≡◌}
use Rattle.std.specs.declared.alloc.Global.{Global}
use Rattle.std.specs.declared.boxed.Box.{Box}
use Rattle.std.specs.declared.option.Option.TheVariants.{None, Some}
use Rattle.std.specs.declared.vec.Vec.{Vec}
use Rattle.std.proofs.lemmas.Grind.{common_steps}
use Rattle.rc_model.specs.Syntax.Tree as t
use Rattle.rc_tree.specs.declared.types.Arg.{Arg}
use Rattle.rc_tree.specs.declared.types.Cmd.{Cmd}
use Rattle.rc_tree.specs.declared.types.Cmd.TheVariants as c
use Rattle.rc_tree.specs.View.{cmd_tree, pairs_tree, tree_Assign, tree_Empty}

pub tree_plain : (v : Vec (Arg × Arg) Global) → cmd_tree (c.Assign v None) ≡ t.Assign (pairs_tree v.items) t.Empty
tree_plain v = tree_Assign v None

pub tree_local : (v : Vec (Arg × Arg) Global) (x : Box Cmd Global) → cmd_tree (c.Assign v (Some x))
    ≡ t.Assign (pairs_tree v.items) (cmd_tree x.value)
tree_local v x = tree_Assign v (Some x)

-- what the making of assignments needs
pub ruleset assignments = (tree_plain, tree_local, tree_Empty, common_steps)
