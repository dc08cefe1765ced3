use Rattle.std.proofs.Common.{◌≡◌, ◌≤◌, ◌-◌, ◌++◌, length, take, drop}
use Rattle.rc_text.specs.Literals.{marks}
use Rattle.rc_glob.specs.Places.{plain_front}
use Rattle.rc_glob.specs.Characters.{characters}
use Rattle.rc_glob.proofs.stars.plain_front.Given as goal

abbrev pub invariant-loop-place : goal.invariant-loop-place
invariant-loop-place l = record {
  in_range : l.place ≤ length l.word;
  same : plain_front (marks l.word) ≡ characters (take l.place l.word) ++ plain_front (marks (drop l.place l.word));
}

abbrev pub decreases-loop-place : goal.decreases-loop-place
decreases-loop-place l = length l.word - l.place
