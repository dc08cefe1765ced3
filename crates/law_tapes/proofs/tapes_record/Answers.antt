use Rattle.law_tapes.proofs.Tapes as tapes
use Rattle.law_tapes.proofs.tapes_record.Goals as goal

pub returns : goal.returns
returns c = tapes.tapes_record
