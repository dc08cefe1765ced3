use Rattle.std.proofs.Common.{length}
use Rattle.rc_text.proofs.words.runs.Runs.+joined.Given as goal

abbrev pub decreases-joined : goal.decreases-joined
decreases-joined l = length l.lengths.now
