use Rattle.std.proofs.Common.{sym}
use Rattle.rc_print.proofs.Forms.{not_begins}
use Rattle.rc_print.proofs.form.+begin.Goals as goal

pub begins_with_case-returns-in_default : goal.begins_with_case-returns-in_default
begins_with_case-returns-in_default t c = sym (not_begins _ c.in_default.not-Lit c.in_default.not-Concat)
