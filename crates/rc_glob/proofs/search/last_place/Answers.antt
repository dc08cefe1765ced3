use Rattle.std.proofs.Common.{sym}
use Rattle.rc_glob.proofs.Reaching.{last_not, last_there, no_last}
use Rattle.rc_glob.proofs.search.last_place.Goals as goal

pub returns-in_default-clause-place : goal.returns-in_default-clause-place
returns-in_default-clause-place c = sym (no_last _ _ _ c.in_default.ensures.parts)

pub returns-then-star_stands_for-clause-place : goal.returns-then-star_stands_for-clause-place
returns-then-star_stands_for-clause-place c =
    last_there _ _ _ _ _ _ c.in-Some.ensures.parts.0 c.in-Some.ensures.parts.1 c.star_stands_for.ensures c.if-star_stands_for.true

pub returns-else-star_stands_for-clause-place : goal.returns-else-star_stands_for-clause-place
returns-else-star_stands_for-clause-place c =
    last_not _ _ _ _ _ _ c.in-Some.ensures.parts.0 c.in-Some.ensures.parts.1 c.star_stands_for.ensures c.if-star_stands_for.false
