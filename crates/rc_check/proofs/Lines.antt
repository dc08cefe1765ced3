-- The line after one more byte.
use Rattle.std.proofs.Common.{◌≡◌, ℕ, ◌<◌, ◌+◌, List, length, get_or, arith}
use Rattle.std.proofs.lemmas.List.Sums.{count_by_more_yes, count_by_more_no}
use Rattle.rc_model.specs.Syntax.Accepted.{line_of}
use Rattle.rc_check.specs.Positions.{next_line}

pub line_more : (text : List ℕ) (at d : ℕ) → at < length text → line_of text (at + 1) ≡ next_line (line_of text at) (get_or text at d)
line_more text at d lt = grind (arith, count_by_more_yes, count_by_more_no)
