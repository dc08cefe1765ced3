use Rattle.law_image.proofs.Trees.{reads_spellings, trees_read_back}
use Rattle.law_image.proofs.spellings_are_read.Goals as goal

pub returns : goal.returns
returns c = (reads_spellings, trees_read_back)
