use Rattle.law_image.proofs.Cuts.{pieces_by_rule, words_by_rule}
use Rattle.law_image.proofs.pieces_are_longest.Goals as goal

pub returns : goal.returns
returns c = (pieces_by_rule, words_by_rule)
