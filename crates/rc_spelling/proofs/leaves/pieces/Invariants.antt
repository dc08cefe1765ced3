use Rattle.std.proofs.Common.{◌≡◌, ◌-◌}
use Rattle.rc_tree.specs.View.{pieces_tree}
use Rattle.rc_spelling.specs.Steps.{nodes_from, list_by, count_from, piece_by}
use Rattle.rc_spelling.proofs.leaves.pieces.Given as goal

abbrev pub invariant-loop : goal.invariant-loop
invariant-loop l = nodes_from piece_by (l.count - l.counter) (pieces_tree l.pieces.items) l.rest ≡ list_by (count_from 0) piece_by l.bytes
