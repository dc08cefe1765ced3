use Rattle.std.proofs.Common.{sym, ◌∙◌}
use Rattle.rc_text.specs.Literals.{mark_of, marks}
use Rattle.rc_glob.proofs.Widths.{width_one, width_open}
use Rattle.rc_glob.proofs.stars.after_part.Goals as goal

pub returns-then-is_marked-clause-width : goal.returns-then-is_marked-clause-width
returns-then-is_marked-clause-width c =
    width_open (mark_of c.args.first) (marks c.args.others.now) c.requires (sym c.is_marked.ensures ∙ c.if-is_marked.true) ∙ c.after_class.ensures.width

pub returns-else-is_marked-clause-width : goal.returns-else-is_marked-clause-width
returns-else-is_marked-clause-width c = width_one (mark_of c.args.first) (marks c.args.others.now) c.requires (sym c.is_marked.ensures ∙ c.if-is_marked.false)
