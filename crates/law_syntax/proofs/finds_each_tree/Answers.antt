use Rattle.law_syntax.proofs.Laws as laws
use Rattle.law_syntax.proofs.finds_each_tree.Goals as goal

pub returns : goal.returns
returns c = laws.finds_each_tree
