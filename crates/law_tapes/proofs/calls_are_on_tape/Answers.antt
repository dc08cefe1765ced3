use Rattle.law_tapes.proofs.Tapes as tapes
use Rattle.law_tapes.proofs.calls_are_on_tape.Goals as goal

pub returns : goal.returns
returns c = tapes.calls_are_on_tape
