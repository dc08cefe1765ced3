use Rattle.std.proofs.Common.{arith}
use Rattle.std.proofs.lemmas.Bool.Decides.{nat_tests}
use Rattle.rc_tree.specs.View.{tree_For}
use Rattle.rc_tree.proofs.Fitting.{fits_For}
use Rattle.rc_tree.proofs.soundness.+fit.Goals as goal

pub fit_cmd-returns-then-fit_args : goal.fit_cmd-returns-then-fit_args
fit_cmd-returns-then-fit_args t c = rw (c.in-For.is, tree_For, fits_For) (grind (arith, nat_tests))

pub fit_cmd-returns-else-fit_args : goal.fit_cmd-returns-else-fit_args
fit_cmd-returns-else-fit_args t c = rw (c.in-For.is, tree_For, fits_For) (grind (arith, nat_tests))
