use Rattle.law_syntax.proofs.OneTree as unique
use Rattle.law_syntax.proofs.uniqueness.one_tree.Goals as goal

pub returns : goal.returns
returns c = unique.one_tree
