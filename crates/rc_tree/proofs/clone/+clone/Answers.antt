use Rattle.rc_tree.specs.View.{tree_For}
use Rattle.rc_tree.proofs.clone.+clone.Goals as goal

pub clone_tree-returns-in-For : goal.clone_tree-returns-in-For
clone_tree-returns-in-For t c = rw (c.in-For.is, tree_For, ← c.deref-in-For.ensures.value) c.clone_for.ensures
