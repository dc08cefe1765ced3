use Rattle.std.proofs.Common.{◌≡◌, drop}
use Rattle.law_descriptors.specs.Covering.{opens_in}
use Rattle.rc_tree.specs.View.{redirs_tree}
use Rattle.rc_covering.proofs.opens_in.Given as goal

-- what was counted and what is left is the whole
abbrev pub invariant-loop-redir : goal.invariant-loop-redir
invariant-loop-redir l = opens_in (redirs_tree (drop l.redir-index l.redirs)) l.files ≡ opens_in (redirs_tree l.redirs) l.inner
