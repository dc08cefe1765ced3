use Rattle.std.proofs.Common.{◌≡◌, ◌≤◌, ◌-◌, length, take, drop}
use Rattle.rc_model.specs.Run.FileNames.{components}
use Rattle.rc_text.specs.Literals.{marks}
use Rattle.rc_glob.proofs.Cuts.{onto}
use Rattle.rc_glob.proofs.components.first_component.Given as goal

abbrev pub invariant-loop-place : goal.invariant-loop-place
invariant-loop-place l = record {
  in_range : l.place ≤ length l.word;
  same : components (marks l.word) ≡ onto (marks (take l.place l.word)) (components (marks (drop l.place l.word)));
}

abbrev pub decreases-loop-place : goal.decreases-loop-place
decreases-loop-place l = length l.word - l.place
