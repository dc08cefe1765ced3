use Rattle.law_image.proofs.ReadProper.{reads_proper, reads_scripts}
use Rattle.law_image.proofs.proper_is_read.Goals as goal

pub returns : goal.returns
returns c = (reads_proper, reads_scripts)
