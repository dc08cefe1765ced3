use Rattle.law_image.proofs.Denoted.{reads_what_is_denoted}
use Rattle.law_image.proofs.denoted_is_read.Goals as goal

pub returns : goal.returns
returns c = reads_what_is_denoted
