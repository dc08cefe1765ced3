use Rattle.law_syntax.proofs.InPieces.{law}
use Rattle.law_syntax.proofs.bytes.in_pieces.Goals as goal

pub returns : goal.returns
returns c = law
