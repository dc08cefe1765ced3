use Rattle.law_image.proofs.Words.{one_list_of_words, has_words, one_tree_of_words}
use Rattle.law_image.proofs.trees_have_one_list_of_words.Goals as goal

pub returns : goal.returns
returns c = (one_list_of_words, has_words, one_tree_of_words)
