use Rattle.rc_scope.proofs.Firsts.{LookedAt}
use Rattle.rc_scope.proofs.background_children.place_of.Given as goal

-- none so far is this child
abbrev pub invariant-loop-other : goal.invariant-loop-other
invariant-loop-other l = LookedAt l.child.0 l.children l.place l.other-index
