use Rattle.std.proofs.Common.{◌≤◌, ◌+◌, ◌*◌, length}
use Rattle.std.specs.Str.{chars}
use denote.Shadow.{shadow}
use denote.Text.{Utf8}
use Rattle.rc_model.specs.Run.Patterns.{parts_match, parts_from, Outside}
use Rattle.rc_text.specs.Literals.{marks}
use Rattle.rc_glob.specs.Begin.{IsStartOf}
use Rattle.rc_glob.proofs.Moves.{Going}
use Rattle.rc_glob.proofs.matching.fits.Given as goal

abbrev pub invariant-moves : goal.invariant-moves
invariant-moves l = record {
  going : Going l.explicit (parts_match l.explicit (parts_from Outside (marks l.whole)) (chars l.text)) (marks l.word) (chars l.rest) l.has_star (marks l.star_word) (chars l.star_text);
  starts : IsStartOf l.start (marks l.star_word);
  rest_shorter : length l.rest ≤ length l.star_text;
  word_shorter : length l.word ≤ length l.whole;
  star_shorter : length l.star_word ≤ length l.whole;
  rest_utf8 : shadow (Utf8 l.rest);
  star_utf8 : shadow (Utf8 l.star_text);
}

abbrev pub decreases-moves : goal.decreases-moves
decreases-moves l = (length l.whole + 1) * length l.star_text + length l.word
