use Rattle.law_syntax.proofs.HerePieces.{pieces_by_rule}
use Rattle.law_syntax.proofs.tokens.here_pieces.Goals as goal

pub returns : goal.returns
returns c = pieces_by_rule
