use Rattle.law_values.proofs.Once.{one_answer_each}
use Rattle.law_values.proofs.patterns.names_ask_once.Goals as goal

pub returns : goal.returns
returns c = one_answer_each
