use Rattle.std.proofs.Common.{arith}
use Rattle.std.proofs.lemmas.Bool.Decides.{nat_tests}
use Rattle.rc_tree.specs.View.{tree_For}
use Rattle.rc_tree.proofs.Levels.{within_For}
use Rattle.rc_tree.proofs.depth.+within.Goals as goal

pub within_cmd-returns-then-within_args : goal.within_cmd-returns-then-within_args
within_cmd-returns-then-within_args t c = rw (c.in-For.is, tree_For, within_For) (grind (arith, nat_tests))

pub within_cmd-returns-else-within_args : goal.within_cmd-returns-else-within_args
within_cmd-returns-else-within_args t c = rw (c.in-For.is, tree_For, within_For) (grind (arith, nat_tests))
