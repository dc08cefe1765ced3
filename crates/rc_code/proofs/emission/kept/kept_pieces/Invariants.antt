use Rattle.std.proofs.Common.{◌≡◌, take}
use Rattle.rc_tree.specs.View.{pieces_tree}
use Rattle.rc_code.proofs.emission.kept.kept_pieces.Given as goal

abbrev pub invariant-loop-piece : goal.invariant-loop-piece
invariant-loop-piece l = pieces_tree l.copies.items ≡ pieces_tree (take l.piece-index l.pieces)
