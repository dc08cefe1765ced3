use Rattle.std.proofs.Common.{sym, subst, ◌∙◌}
use Rattle.rc_lexer.specs.Reads.{HasRead}
use Rattle.rc_lexer.proofs.ReadsOn.{still_reads}
use Rattle.rc_lexer.proofs.pieces.Pieces.feed.Goals as goal

pub read_more-requires-clause-read : goal.read_more-requires-clause-read
read_more-requires-clause-read c =
    subst (λ z. HasRead z c.self.inside.reading c.self.inside.state c.self.inside.place) (sym (c.as_slice.ensures.value ∙ c.in_ok-add.ensures.ok))
    (still_reads c.self.inside.text.items c.args.piece.now c.self.inside.reading c.self.inside.state c.self.inside.place c.self.inside.fault _ c.is_some.ensures c.if-is_some.false c.self.invariant)
