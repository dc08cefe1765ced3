use Rattle.law_syntax.proofs.Cutting.{law}
use Rattle.law_syntax.proofs.tokens.reading.Goals as goal

pub returns : goal.returns
returns c = law
