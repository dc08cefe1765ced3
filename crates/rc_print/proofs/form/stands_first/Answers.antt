use Rattle.std.proofs.Common.{sym}
use Rattle.rc_print.proofs.Forms.{not_first}
use Rattle.rc_print.proofs.form.stands_first.Goals as goal

pub returns-in_default : goal.returns-in_default
returns-in_default c = sym (not_first _ _ c.in_default.not-Simple c.in_default.not-Switch c.in_default.not-Brace)
