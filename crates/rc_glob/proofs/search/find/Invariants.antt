use Rattle.std.proofs.Common.{◌≡◌, ◌≤◌, length}
use Rattle.std.specs.Str.{chars, IsUtf8}
use Rattle.rc_glob.specs.Places.{begins_with, first_place}
use Rattle.rc_glob.specs.Characters.{characters}
use Rattle.rc_glob.proofs.Hashes.{Window}
use Rattle.rc_glob.proofs.search.find.Given as goal

abbrev pub invariant-places : goal.invariant-places
invariant-places l = record {
  same : first_place l.explicit (begins_with (characters l.run)) (chars l.text) ≡ first_place l.explicit (begins_with (characters l.run)) (chars l.place);
  window : Window (characters l.run) l.before (chars l.place) l.hash (chars l.ahead);
  shorter : length l.place ≤ length l.text;
  place_utf8 : IsUtf8 l.place;
  ahead_utf8 : IsUtf8 l.ahead;
}

abbrev pub decreases-places : goal.decreases-places
decreases-places l = length l.place
