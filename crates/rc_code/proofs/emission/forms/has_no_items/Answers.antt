use Rattle.std.proofs.Common.{sym}
use Rattle.rc_code.proofs.OtherForms.{not_listed}
use Rattle.rc_code.proofs.emission.forms.has_no_items.Goals as goal

pub returns-in_default : goal.returns-in_default
returns-in_default c = sym (not_listed _ c.in_default.not-Seq)
