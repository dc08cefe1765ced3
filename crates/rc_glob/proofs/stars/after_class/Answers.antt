use Rattle.rc_text.specs.Literals.{marks}
use Rattle.rc_glob.proofs.Widths.{closed_shorter, width_closed, width_unclosed}
use Rattle.rc_glob.proofs.stars.after_class.Goals as goal

pub returns-in-Some-clause-width : goal.returns-in-Some-clause-width
returns-in-Some-clause-width c = width_closed (marks c.args.word.now) (marks c.in-Some.field-0-0.now, marks c.in-Some.after.now) c.in-Some.ensures

pub returns-in-Some-clause-shorter : goal.returns-in-Some-clause-shorter
returns-in-Some-clause-shorter c = closed_shorter c.args.word.now c.in-Some.field-0-0.now c.in-Some.after.now c.in-Some.ensures

pub returns-in-None-clause-width : goal.returns-in-None-clause-width
returns-in-None-clause-width c = width_unclosed (marks c.args.word.now) c.in-None.ensures
