use Rattle.std.proofs.Common.{◌≡◌, ◌≤◌, ◌-◌, length, take, drop}
use Rattle.rc_model.specs.Mirrors.Greedy.{class_end}
use Rattle.rc_text.specs.Literals.{marks}
use Rattle.rc_glob.proofs.Members.{with_front}
use Rattle.rc_glob.proofs.classes.class_end.Given as goal

abbrev pub invariant-loop-place : goal.invariant-loop-place
invariant-loop-place l = record {
  in_range : l.place ≤ length l.word;
  same : class_end (marks l.word) ≡ with_front (marks (take l.place l.word)) (class_end (marks (drop l.place l.word)));
}

abbrev pub decreases-loop-place : goal.decreases-loop-place
decreases-loop-place l = length l.word - l.place
