use Rattle.std.proofs.Common.{◌≡◌, ◌++◌}
use Rattle.std.specs.Iterator.Adapters.{zip_first, zip_second}
use Rattle.std.specs.Slice.Iter.{iter_rest}
use Rattle.rc_model.specs.Run.Lists.{pairwise}
use Rattle.rc_text.proofs.words.concatenation.pairwise.Given as goal

abbrev pub invariant-loop-left : goal.invariant-loop-left
invariant-loop-left l = l.list ++ pairwise (iter_rest (zip_first l.left-iterator)) (iter_rest (zip_second l.left-iterator)) ≡ pairwise l.lefts l.rights
