use Rattle.law_syntax.proofs.JoinedParts.{split}
use Rattle.law_syntax.proofs.parts.parts_split.Goals as goal

pub returns : goal.returns
returns c = split
