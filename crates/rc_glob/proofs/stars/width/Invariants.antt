use Rattle.std.proofs.Common.{◌≡◌, ◌≤◌, ◌+◌, length}
use Rattle.rc_model.specs.Run.Patterns.{Outside, parts_from}
use Rattle.rc_text.specs.Literals.{marks}
use Rattle.rc_glob.specs.Places.{width}
use Rattle.rc_glob.proofs.Widths.{more}
use Rattle.rc_glob.proofs.stars.width.Given as goal

abbrev pub invariant-parts : goal.invariant-parts
invariant-parts l = record {
  same : width (parts_from Outside (marks l.word)) ≡ more l.count (width (parts_from Outside (marks l.rest)));
  within : l.count + length l.rest ≤ length l.word;
}

abbrev pub decreases-parts : goal.decreases-parts
decreases-parts l = length l.rest
