use Rattle.std.proofs.Common.{◌≡◌, take}
use Rattle.rc_text.proofs.words.few_runs.FewRuns.many.Given as goal

abbrev pub invariant-loop-length : goal.invariant-loop-length
invariant-loop-length l = l.runs ≡ (l.self.0, take l.length-index l.length-items)
