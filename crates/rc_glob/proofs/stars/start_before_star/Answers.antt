use Rattle.std.proofs.Common.{refl}
use Rattle.rc_text.specs.Literals.{marks}
use Rattle.rc_glob.specs.Characters.{characters}
use Rattle.rc_glob.proofs.Widths.{at_front}
use Rattle.rc_glob.proofs.stars.start_before_star.Goals as goal

pub returns-in-Some : goal.returns-in-Some
returns-in-Some c = at_front (marks c.args.word.now) (characters c.plain_front-front.result.now) c.plain_front-front.ensures

pub returns-in_default : goal.returns-in_default
returns-in_default c = λ e x h. refl
