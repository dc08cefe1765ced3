use Rattle.law_traces.proofs.Traces.{begun_loses_nothing}
use Rattle.law_machine.proofs.Recorded.{begun_as_meant}
use Rattle.law_lost.proofs.code_loses_nothing.Goals as goal

pub returns : goal.returns
returns c = λ m d s trace p g f. begun_loses_nothing d s trace (begun_as_meant m d s trace p g) f
