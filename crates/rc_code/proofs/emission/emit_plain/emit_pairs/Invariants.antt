use Rattle.std.proofs.Common.{◌≡◌, drop}
use Rattle.rc_tree.specs.View.{pairs_tree}
use Rattle.rc_code.specs.Listings.{listing_of}
use Rattle.rc_code.specs.Writing.{with_part}
use Rattle.rc_code.specs.Emission.{pairs_alone}
use Rattle.rc_code.proofs.emission.emit_plain.emit_pairs.Given as goal

-- what is written and what is left is the whole
abbrev pub invariant-loop-pair : goal.invariant-loop-pair
invariant-loop-pair l =
    with_part (listing_of l.code) (pairs_alone (pairs_tree (drop l.pair-index l.pairs)) l.bare) ≡ with_part (listing_of l.fn.code) (pairs_alone (pairs_tree l.pairs) l.bare)
