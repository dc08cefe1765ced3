use Rattle.law_syntax.proofs.Tails.{tail}
use Rattle.law_syntax.proofs.parts.phrases_leave_tails.Goals as goal

pub returns : goal.returns
returns c = λ l ts rest x p. tail p
