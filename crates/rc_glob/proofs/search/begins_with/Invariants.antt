use Rattle.std.proofs.Common.{◌≡◌, length}
use Rattle.std.specs.Str.{chars, IsUtf8}
use Rattle.rc_glob.specs.Places.{begins_with}
use Rattle.rc_glob.specs.Characters.{characters}
use Rattle.rc_glob.proofs.search.begins_with.Given as goal

abbrev pub invariant-run : goal.invariant-run
invariant-run l = record {
  same : begins_with (characters l.run) (chars l.text) ≡ begins_with (characters l.left) (chars l.rest);
  utf8 : IsUtf8 l.rest;
}

abbrev pub decreases-run : goal.decreases-run
decreases-run l = length l.left
