use Rattle.std.proofs.Common.{◌≡◌, drop}
use Rattle.rc_tree.specs.View.{redirs_tree}
use Rattle.rc_code.specs.Listings.{listing_of}
use Rattle.rc_code.specs.Writing.{with_part}
use Rattle.rc_code.specs.Emission.{redirs_alone}
use Rattle.rc_code.proofs.emission.emit_plain.emit_redirs.Given as goal

-- what is written and what is left is the whole
abbrev pub invariant-loop-redir : goal.invariant-loop-redir
invariant-loop-redir l =
    with_part (listing_of l.code) (redirs_alone (redirs_tree (drop l.redir-index l.redirs))) ≡ with_part (listing_of l.fn.code) (redirs_alone (redirs_tree l.redirs))
