use Rattle.law_traces.proofs.Traces.{begun_loses_nothing}
use Rattle.law_traces.proofs.nothing_is_lost.Goals as goal

pub returns : goal.returns
returns c = begun_loses_nothing
