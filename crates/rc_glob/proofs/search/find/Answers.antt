use Rattle.std.proofs.Common.{◌≡◌, true, refl, sym, ◌∙◌, rules, arith}
use Rattle.std.specs.Str.{chars}
use Rattle.rc_glob.specs.Places.{begins_with}
use Rattle.rc_glob.proofs.Reaching.{here, place_next}
use Rattle.rc_glob.specs.Characters.{characters}
use Rattle.rc_glob.proofs.Hashes.{length-characters, no_further_place, no_room, hash_wanted, window_at, window_next}
use Rattle.rc_glob.proofs.search.find.Goals as goal

pub returns-in_default-clause-place : goal.returns-in_default-clause-place
returns-in_default-clause-place c =
    sym (no_room c.args.explicit (characters c.args.run.now) (chars c.args.text.now) (omega (arith, length-characters c.args.run.now, c.in_default.ensures.parts)))

pub places-init : goal.places-init
places-init c = record {
  same = refl;
  window = window_at (characters c.args.run.now) (chars c.args.text.now) (chars c.in-Some.ahead.now) _ c.in-Some.hash
      (omega (arith, length-characters c.args.run.now)) c.in-Some.ensures.parts.0 c.in-Some.ensures.parts.1
      c.in-Some.ensures.parts.2;
  shorter = omega arith;
  place_utf8 = c.utf8.text;
  ahead_utf8 = c.in-Some.ensures.utf8;
}

pub stands_at-requires : goal.stands_at-requires
stands_at-requires c =
    hash_wanted (characters c.args.run.now) (chars c.places.place.now) (chars c.places.ahead.now) c.places.before c.places.hash c.scale_of-scale.result c.hash_of-goal.result c.scaled.result
    c.scale_of-scale.ensures c.hash_of-goal.ensures c.scaled.ensures c.places.invariant.window

pub returns-then-stands_at-clause-place : goal.returns-then-stands_at-clause-place
returns-then-stands_at-clause-place c =
    sym (c.places.invariant.same ∙ here c.args.explicit (begins_with (characters c.args.run.now)) (chars c.places.place.now) (sym c.stands_at.ensures ∙ c.if-stands_at.true))

pub returns-in_default-first_char-2-clause-place : goal.returns-in_default-first_char-2-clause-place
returns-in_default-first_char-2-clause-place c =
    sym (c.places.invariant.same
    ∙ no_further_place c.args.explicit (characters c.args.run.now) c.places.before (chars c.places.place.now)
    c.places.hash (chars c.places.ahead.now) c.in-Some-first_char.c (chars c.in-Some-first_char.more.now)
    (sym c.stands_at.ensures ∙ c.if-stands_at.false) c.in-Some-first_char.ensures.chars c.in_default-first_char-2.ensures.chars c.places.invariant.window)

pub places-preserved : goal.places-preserved
places-preserved c =
    let may : c.stands_for.result ≡ true = search rules in
    record {
      same =
          c.places.invariant.same
          ∙ place_next c.args.explicit (begins_with (characters c.args.run.now)) (chars c.places.place.now) c.in-Some-first_char.c (chars c.in-Some-first_char.more.now)
          c.in-Some-first_char.ensures.chars (sym c.stands_at.ensures ∙ c.if-stands_at.false) (sym c.stands_for.ensures ∙ may);
      window =
          window_next (characters c.args.run.now) c.places.before (chars c.places.place.now) c.places.hash (chars c.places.ahead.now) c.in-Some-first_char.c (chars c.in-Some-first_char.more.now)
          c.in-Some-first_char-2.next (chars c.in-Some-first_char-2.further.now) c.add_char-before.result c.add_char-hash.result (sym c.stands_at.ensures ∙ c.if-stands_at.false)
          c.in-Some-first_char.ensures.chars c.in-Some-first_char-2.ensures.chars c.add_char-before.ensures c.add_char-hash.ensures c.places.invariant.window;
      shorter = omega (arith, c.in-Some-first_char.ensures.shorter);
      place_utf8 = c.in-Some-first_char.ensures.utf8;
      ahead_utf8 = c.in-Some-first_char-2.ensures.utf8;
    }
