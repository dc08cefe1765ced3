use Rattle.std.proofs.Common.{length}
use Rattle.rc_text.proofs.words.few_runs.+last_run.Given as goal

abbrev pub decreases-last_run : goal.decreases-last_run
decreases-last_run l = length l.lengths.now
