use Rattle.law_image.proofs.Handed.{handed_reads_back}
use Rattle.law_image.proofs.handed_is_read.Goals as goal

pub returns : goal.returns
returns c = handed_reads_back
