use Rattle.rc_layout.proofs.Trees.{proper_tree}
use Rattle.rc_layout.proofs.layout.has_tree.Goals as goal

pub are_same-requires-clause-second : goal.are_same-requires-clause-second
are_same-requires-clause-second c = proper_tree _ _ c.in-Ok.ensures.accepted
