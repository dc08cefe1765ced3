use Rattle.law_traces.proofs.Fresh.{fresh_alike as the_law}
use Rattle.law_traces.proofs.fresh_alike.Goals as goal

pub returns : goal.returns
returns c = the_law
