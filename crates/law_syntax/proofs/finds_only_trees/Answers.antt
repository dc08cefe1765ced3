use Rattle.law_syntax.proofs.Laws as laws
use Rattle.law_syntax.proofs.finds_only_trees.Goals as goal

pub returns : goal.returns
returns c = laws.finds_only_trees
