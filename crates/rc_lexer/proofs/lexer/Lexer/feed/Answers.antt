use Rattle.rc_lexer.proofs.Fed.{fed}
use Rattle.rc_lexer.proofs.lexer.Lexer.feed.Goals as goal

pub invariant_of-self : goal.invariant_of-self
invariant_of-self c =
    fed c.feed.result c.self.inside.pieces c.feed.new.self c.args.piece.now c.as_bytes.result.now c.feed.ensures.ok c.feed.ensures.err c.as_bytes.ensures.value c.self.invariant c.utf8.piece
