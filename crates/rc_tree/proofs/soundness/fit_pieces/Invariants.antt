use Rattle.std.proofs.Common.{◌≡◌, drop}
use Rattle.rc_model.specs.Syntax.WellFormed.{are_sound}
use Rattle.rc_tree.specs.View.{pieces_tree}
use Rattle.rc_tree.proofs.soundness.fit_pieces.Given as goal

abbrev pub invariant-loop-piece : goal.invariant-loop-piece
invariant-loop-piece l = are_sound (pieces_tree (drop l.piece-index l.pieces)) ≡ are_sound (pieces_tree l.pieces)
