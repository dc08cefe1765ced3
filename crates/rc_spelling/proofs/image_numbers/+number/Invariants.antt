use Rattle.std.proofs.Common.{length}
use Rattle.rc_spelling.proofs.image_numbers.+number.Given as goal

abbrev pub decreases-number_from : goal.decreases-number_from
decreases-number_from l = length l.bytes.now
