use Rattle.law_syntax.proofs.OfChars.{law}
use Rattle.law_syntax.proofs.bytes.characters_by_bytes.Goals as goal

pub returns : goal.returns
returns c = law
