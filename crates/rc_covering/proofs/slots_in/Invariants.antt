use Rattle.std.proofs.Common.{◌≡◌, drop}
use Rattle.law_descriptors.specs.Covering.{slots_in}
use Rattle.rc_tree.specs.View.{redirs_tree}
use Rattle.rc_covering.proofs.slots_in.Given as goal

-- what is left makes the whole
abbrev pub invariant-loop-redir : goal.invariant-loop-redir
invariant-loop-redir l = slots_in (redirs_tree (drop l.redir-index l.redirs)) l.after ≡ slots_in (redirs_tree l.redirs) l.fn.slots
