use Rattle.rc_layout.proofs.Trees.{proper_tree}
use Rattle.rc_layout.proofs.layout.laid_out.Goals as goal

pub has_tree-requires : goal.has_tree-requires
has_tree-requires c = proper_tree _ _ c.in-Ok.ensures.accepted
