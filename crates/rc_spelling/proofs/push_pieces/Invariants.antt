use Rattle.std.proofs.Common.{◌≡◌, ◌++◌, drop, string_bytes}
use Rattle.rc_model.specs.Syntax.Tree.{count}
use Rattle.rc_model.specs.Handed.Image.{many_image, list_image}
use Rattle.rc_tree.specs.View.{pieces_tree}
use Rattle.rc_spelling.proofs.push_pieces.Given as goal

abbrev pub invariant-loop-piece : goal.invariant-loop-piece
invariant-loop-piece l =
    string_bytes l.out ++ many_image (pieces_tree (drop l.piece-index l.pieces))
    ≡ string_bytes l.fn.out ++ list_image (count (pieces_tree l.pieces)) (many_image (pieces_tree l.pieces))
