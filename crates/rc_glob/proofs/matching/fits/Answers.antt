use Rattle.std.proofs.Common.{◌≡◌, true, rules, arith, refl, sym}
use Rattle.rc_text.specs.Literals.{marks}
use Rattle.std.specs.Str.{chars}
use Rattle.rc_glob.specs.Begin.{can_begin}
use Rattle.rc_glob.proofs.Moves.{back_nowhere, back_place, going_end, going_one, going_start, star_nowhere, star_place}
use Rattle.rc_glob.proofs.matching.fits.Goals as goal

pub moves-init : goal.moves-init
moves-init c = record {
  going = going_start c.args.explicit (marks c.args.whole.now) (chars c.args.text.now);
  starts = λ e x h. refl;
  rest_shorter = omega arith;
  word_shorter = omega arith;
  star_shorter = omega arith;
  rest_utf8 = c.utf8.text;
  star_utf8 = c.utf8.text;
}

pub moves-preserved-then-has_star : goal.moves-preserved-then-has_star
moves-preserved-then-has_star c = record {
  going = going_one _ _ _ _ _ _ _ _ _ _ _ (sym c.in-PastOne.ensures.next) (search rules) c.moves.invariant.going;
  starts = c.moves.invariant.starts;
  rest_shorter = omega (arith, c.in-PastOne.ensures.less.1);
  word_shorter = omega (arith, c.in-PastOne.ensures.less.0);
  star_shorter = c.moves.invariant.star_shorter;
  rest_utf8 = c.in-PastOne.ensures.less.2;
  star_utf8 = c.moves.invariant.star_utf8;
}

pub moves-preserved-else-has_star : goal.moves-preserved-else-has_star
moves-preserved-else-has_star c = record {
  going = going_one _ _ _ _ _ _ _ _ _ _ _ (sym c.in-PastOne.ensures.next) (search rules) c.moves.invariant.going;
  starts = c.moves.invariant.starts;
  rest_shorter = omega (arith, c.in-PastOne.ensures.less.1);
  word_shorter = omega (arith, c.in-PastOne.ensures.less.0);
  star_shorter = c.moves.invariant.star_shorter;
  rest_utf8 = c.in-PastOne.ensures.less.2;
  star_utf8 = c.moves.invariant.star_utf8;
}

pub returns-in-AtEnd : goal.returns-in-AtEnd
returns-in-AtEnd c = going_end _ _ _ _ _ _ _ (sym c.in-AtEnd.ensures.next) c.moves.invariant.going

pub returns-in_default : goal.returns-in_default
returns-in_default c =
    star_nowhere c.args.explicit _ (marks c.moves.word.now) (marks c.in-PastStar.after.now) (chars c.moves.rest.now) c.moves.has_star (marks c.moves.star_word.now) (chars c.moves.star_text.now)
    (can_begin c.start_of-start.result) (sym c.in-PastStar.ensures.next) c.start_of-start.ensures c.in_default.ensures.place c.moves.invariant.going

pub moves-preserved-in-PastStar : goal.moves-preserved-in-PastStar
moves-preserved-in-PastStar c = record {
  going =
      star_place c.args.explicit _ (marks c.moves.word.now) (marks c.in-PastStar.after.now) (chars c.moves.rest.now) (chars c.in-Some.place.now) c.moves.has_star (marks c.moves.star_word.now)
      (chars c.moves.star_text.now) (can_begin c.start_of-start.result) (sym c.in-PastStar.ensures.next) c.start_of-start.ensures c.in-Some.ensures.place c.moves.invariant.going;
  starts = c.start_of-start.ensures;
  rest_shorter = omega arith;
  word_shorter = omega (arith, c.in-PastStar.ensures.less);
  star_shorter = omega (arith, c.in-PastStar.ensures.less);
  rest_utf8 = c.in-Some.ensures.utf8;
  star_utf8 = c.in-Some.ensures.utf8;
}

pub returns-in_default-later_place : goal.returns-in_default-later_place
returns-in_default-later_place c =
    let there : c.moves.has_star ≡ true = search rules in
    back_nowhere c.args.explicit _ (marks c.moves.word.now) (chars c.moves.rest.now) c.moves.has_star (marks c.moves.star_word.now) (chars c.moves.star_text.now) (can_begin c.moves.start)
    (sym c.in-Miss.ensures.next) there c.moves.invariant.starts c.in_default-later_place.ensures.place c.moves.invariant.going

pub moves-preserved : goal.moves-preserved
moves-preserved c =
    let there : c.moves.has_star ≡ true = search rules in
    record {
      going =
          back_place c.args.explicit _ (marks c.moves.word.now) (chars c.moves.rest.now) c.moves.has_star (marks c.moves.star_word.now) (chars c.moves.star_text.now)
          (chars c.in-Some-later_place.place.now) (can_begin c.moves.start) (sym c.in-Miss.ensures.next) there c.moves.invariant.starts c.in-Some-later_place.ensures.place c.moves.invariant.going;
      starts = c.moves.invariant.starts;
      rest_shorter = omega arith;
      word_shorter = c.moves.invariant.star_shorter;
      star_shorter = c.moves.invariant.star_shorter;
      rest_utf8 = c.in-Some-later_place.ensures.utf8;
      star_utf8 = c.in-Some-later_place.ensures.utf8;
    }
