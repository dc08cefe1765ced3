use Rattle.std.proofs.Common.{◌≡◌, ◌≤◌, ◌+◌, drop}
use Rattle.rc_model.specs.Mirrors.Reading.{zero_line}
use Rattle.rc_lexer.proofs.pieces.zero_line.Given as goal

abbrev pub invariant-loop-b : goal.invariant-loop-b
invariant-loop-b l = record {
  so_far : zero_line l.line (drop l.b-index l.text) ≡ zero_line 1 l.text;
  lines : l.line ≤ l.b-index + 1;
}
