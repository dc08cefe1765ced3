use Rattle.law_syntax.proofs.Laws as laws
use Rattle.law_syntax.proofs.has_one_tree.Goals as goal

pub returns : goal.returns
returns c = laws.has_one_tree
