use Rattle.std.proofs.Common.{◌≡◌, ◌-◌, ◌≤◌, map, string_bytes, vec_len}
use denote.Text.{Utf8}
use denote.Shadow.{shadow}
use Rattle.rc_model.specs.Handed.Pieces.{longest_word, most_pieces, pieces}
use Rattle.rc_image.proofs.Cuts.{cut_after}
use Rattle.rc_image.proofs.image_pieces.cut.Given as goal

-- what was cut, with the pieces of what is left, is the whole
abbrev pub invariant-loop-rest : goal.invariant-loop-rest
invariant-loop-rest l = shadow (Utf8 l.rest) × (vec_len l.pieces ≤ 16)
    × (cut_after (map string_bytes l.pieces.items) (16 - vec_len l.pieces) l.rest ≡ pieces most_pieces longest_word l.spelling)

abbrev pub decreases-loop-rest : goal.decreases-loop-rest
decreases-loop-rest l = 16 - vec_len l.pieces
