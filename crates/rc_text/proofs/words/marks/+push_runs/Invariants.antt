use Rattle.std.proofs.Common.{length}
use Rattle.rc_text.proofs.words.marks.+push_runs.Given as goal

abbrev pub decreases-push_runs : goal.decreases-push_runs
decreases-push_runs l = length l.lengths.now
