use Rattle.law_syntax.proofs.Sound.{has_sound_trees}
use Rattle.law_syntax.proofs.has_sound_trees.Goals as goal

pub returns : goal.returns
returns c = has_sound_trees
