use Rattle.std.proofs.Common.{◌≡◌, take}
use Rattle.rc_tree.specs.View.{pairs_tree}
use Rattle.rc_tree.proofs.clone.clone_pairs.Given as goal

abbrev pub invariant-loop-pair : goal.invariant-loop-pair
invariant-loop-pair l = pairs_tree l.copies.items ≡ pairs_tree (take l.pair-index l.pairs)
