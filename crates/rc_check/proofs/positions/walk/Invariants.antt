use Rattle.std.proofs.Common.{◌≡◌, ◌+◌, ◌≤◌, take}
use Rattle.std.specs.List.{fold}
use Rattle.rc_model.specs.Syntax.Accepted.{line_of}
use Rattle.rc_check.specs.Positions.{next_column}
use Rattle.rc_check.proofs.positions.walk.Given as goal

abbrev pub invariant-loop-at : goal.invariant-loop-at
invariant-loop-at l = record {
  line_so_far : l.line ≡ line_of l.text l.at;
  column_so_far : l.column ≡ fold next_column 1 (take l.at l.text);
  line_bound : l.line ≤ l.at + 1;
  column_bound : l.column ≤ l.at + 1;
}
