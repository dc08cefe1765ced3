use Rattle.std.proofs.Common.{sym, ap, ◌∙◌}
use Rattle.std.specs.Str.{chars}
use Rattle.rc_glob.specs.Begin.{can_begin}
use Rattle.rc_glob.specs.Places.{first_place}
use Rattle.rc_glob.proofs.stars.next_place.Goals as goal

pub returns-in-BeforeEnd-clause-place : goal.returns-in-BeforeEnd-clause-place
returns-in-BeforeEnd-clause-place c =
    c.last_place.ensures.place ∙ ap (λ s. first_place c.args.explicit (can_begin s) (chars c.args.text.now)) (sym c.in-BeforeEnd.is)

pub returns-in-AtFront-clause-place : goal.returns-in-AtFront-clause-place
returns-in-AtFront-clause-place c =
    c.find.ensures.place ∙ ap (λ s. first_place c.args.explicit (can_begin s) (chars c.args.text.now)) (sym c.in-AtFront.is)
