use Rattle.law_traces.proofs.Traces.{ended_leaves_nothing}
use Rattle.law_machine.proofs.Recorded.{ended_as_meant}
use Rattle.law_lost.proofs.code_leaves_nothing.Goals as goal

pub returns : goal.returns
returns c = λ m d s t trace g f. ended_leaves_nothing d s trace t (ended_as_meant m d s t trace g) f
