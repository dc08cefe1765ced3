use Rattle.std.proofs.Common.{◌≡◌, take}
use Rattle.rc_tree.specs.View.{redirs_tree}
use Rattle.rc_tree.proofs.clone.clone_redirs.Given as goal

abbrev pub invariant-loop-redir : goal.invariant-loop-redir
invariant-loop-redir l = redirs_tree l.copies.items ≡ redirs_tree (take l.redir-index l.redirs)
