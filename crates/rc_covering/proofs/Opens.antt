-- How redirections are counted one by one.
use Rattle.std.proofs.Common.{◌≡◌, ap, ℕ, suc, ◌+◌, add-one}
use Rattle.rc_model.specs.Syntax.Tree.{Many, redir, none, more, Open, Copy, Here}
use Rattle.rc_tree.specs.View.{tree_walks}
use Rattle.law_descriptors.specs.Covering.{opens_in}

pub opens_more : (l : Many redir) (k : ℕ) → opens_in l (k + 1) ≡ suc (opens_in l k)
opens_more none k = add-one k
opens_more (more (Open mode slot path) rest) k = ap suc (opens_more rest k)
opens_more (more (Copy to from) rest) k = opens_more rest k
opens_more (more (Here pieces) rest) k = ap suc (opens_more rest k)

pub ruleset steps = (tree_walks, opens_more)
