use Rattle.law_tapes.proofs.Tapes as tapes
use Rattle.law_tapes.proofs.new_tapes_have_all.Goals as goal

pub returns : goal.returns
returns c = tapes.new_tapes_have_all
