use Rattle.std.proofs.Common.{◌≡◌, ◌++◌, drop, string_bytes}
use Rattle.rc_model.specs.Run.Acts.{here_text}
use Rattle.rc_tree.specs.View.{pieces_tree}
use Rattle.rc_scope.specs.States.{state_of}
use Rattle.rc_machine.proofs.descriptors.open_redirections.here_text.Given as goal

-- the text so far, and that of the pieces that are left
abbrev pub invariant-loop-piece : goal.invariant-loop-piece
invariant-loop-piece l = string_bytes l.text ++ here_text (state_of l.state) (pieces_tree (drop l.piece-index l.pieces))
    ≡ here_text (state_of l.state) (pieces_tree l.pieces)
