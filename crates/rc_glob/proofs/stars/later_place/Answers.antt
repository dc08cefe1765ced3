use Rattle.std.proofs.Common.{◌∙◌}
use Rattle.std.specs.Str.{chars}
use Rattle.rc_glob.specs.Begin.{can_begin}
use Rattle.rc_glob.proofs.Reaching.{later_not, later_on}
use Rattle.rc_glob.proofs.stars.later_place.Goals as goal

pub returns-then-stands_for-clause-place : goal.returns-then-stands_for-clause-place
returns-then-stands_for-clause-place c =
    c.next_place.ensures.place
    ∙ later_on c.args.explicit (can_begin c.args.start) (chars c.args.text.now) c.in-Some.c (chars c.in-Some.more.now)
    c.stands_for.result c.in-Some.ensures.chars c.stands_for.ensures c.if-stands_for.true

pub returns-else-stands_for-clause-place : goal.returns-else-stands_for-clause-place
returns-else-stands_for-clause-place c =
    later_not c.args.explicit (can_begin c.args.start) (chars c.args.text.now) c.in-Some.c (chars c.in-Some.more.now)
    c.stands_for.result c.in-Some.ensures.chars c.stands_for.ensures c.if-stands_for.false
