use Rattle.law_print.proofs.Scripts as scripts
use Rattle.law_print.proofs.written.written_trees.Goals as goal

pub returns : goal.returns
returns c = scripts.written_trees
