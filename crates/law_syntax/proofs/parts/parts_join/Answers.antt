use Rattle.law_syntax.proofs.JoinedParts.{joined}
use Rattle.law_syntax.proofs.parts.parts_join.Goals as goal

pub returns : goal.returns
returns c = joined
