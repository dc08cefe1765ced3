use Rattle.law_print.proofs.Round as round
use Rattle.law_print.proofs.round_trip.Goals as goal

pub returns : goal.returns
returns c = round.round_trip
