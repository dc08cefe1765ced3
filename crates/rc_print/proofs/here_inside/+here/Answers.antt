use Rattle.std.proofs.Common.{arith}
use Rattle.rc_tree.specs.View.{tree_For}
use Rattle.rc_print.proofs.here_inside.+here.Goals as goal

pub has_here-returns-then-have_here_args : goal.has_here-returns-then-have_here_args
has_here-returns-then-have_here_args t c = rw (c.in-For.is, tree_For) (grind arith)

pub has_here-returns-else-have_here_args : goal.has_here-returns-else-have_here_args
has_here-returns-else-have_here_args t c = rw (c.in-For.is, tree_For) (grind arith)
