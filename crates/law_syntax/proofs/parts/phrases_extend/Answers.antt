use Rattle.law_syntax.proofs.Extending.{law}
use Rattle.law_syntax.proofs.parts.phrases_extend.Goals as goal

pub returns : goal.returns
returns c = law
