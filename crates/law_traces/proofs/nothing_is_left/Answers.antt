use Rattle.law_traces.proofs.Traces.{ended_leaves_nothing}
use Rattle.law_traces.proofs.nothing_is_left.Goals as goal

pub returns : goal.returns
returns c = ended_leaves_nothing
