use Rattle.law_image.proofs.OneTree.{one_tree}
use Rattle.law_image.proofs.Trees.{one_spelling, has_spelling}
use Rattle.law_image.proofs.trees_have_one_spelling.Goals as goal

pub returns : goal.returns
returns c = (one_spelling, has_spelling, one_tree)
