use Rattle.std.proofs.Common.{string_bytes}
use Rattle.rc_scope.specs.States.{state_of}
use Rattle.rc_machine.proofs.Heres.{all_pieces, one_piece}
use Rattle.rc_machine.proofs.descriptors.open_redirections.here_text.Goals as goal

pub loop-piece-preserved : goal.loop-piece-preserved
loop-piece-preserved c =
    one_piece (state_of c.args.state.now) c.args.pieces.now c.loop-piece.piece-index (string_bytes c.loop-piece.text) _ c.piece-item.result
    c.loop-piece-test.true c.piece-item.is c.loop-piece.invariant c.in_ok-push_piece.ensures

pub returns : goal.returns
returns c =
    all_pieces (state_of c.args.state.now) c.args.pieces.now c.loop-piece.piece-index (string_bytes c.loop-piece.text)
    c.loop-piece-test.false c.loop-piece.invariant
