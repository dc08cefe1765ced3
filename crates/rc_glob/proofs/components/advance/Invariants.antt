use Rattle.std.proofs.Common.{◌≡◌, ◌≤◌, true, length, string_bytes}
use Rattle.rc_model.specs.Syntax.Words.{has_pattern}
use Rattle.rc_model.specs.Run.FileNames.{components}
use Rattle.rc_text.specs.Literals.{marks}
use Rattle.rc_glob.specs.Paths.{paths_from}
use Rattle.rc_glob.proofs.components.advance.Given as goal

abbrev pub invariant-loop-after : goal.invariant-loop-after
invariant-loop-after l = record {
  same : paths_from (components (marks l.word)) (string_bytes l.fn.path) ≡ paths_from (components (marks l.rest)) (string_bytes l.path);
  pattern : has_pattern (marks l.rest) ≡ true;
  shorter : length l.rest ≤ length l.word;
}

abbrev pub decreases-loop-after : goal.decreases-loop-after
decreases-loop-after l = length l.rest
