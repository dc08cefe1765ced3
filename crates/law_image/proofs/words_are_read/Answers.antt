use Rattle.law_image.proofs.Words.{reads_words, words_read_back}
use Rattle.law_image.proofs.words_are_read.Goals as goal

pub returns : goal.returns
returns c = (reads_words, words_read_back)
