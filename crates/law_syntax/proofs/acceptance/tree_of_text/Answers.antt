use Rattle.law_syntax.proofs.Found as found
use Rattle.law_syntax.proofs.acceptance.tree_of_text.Goals as goal

pub returns : goal.returns
returns c = found.finds_the_tree
