use Rattle.rc_text.specs.Literals.{marks}
use Rattle.rc_glob.proofs.Widths.{before_end}
use Rattle.rc_glob.proofs.stars.start_of.Goals as goal

pub returns-in-Some : goal.returns-in-Some
returns-in-Some c = before_end (marks c.args.word.now) c.in-Some.count c.in-Some.ensures
