use Rattle.std.proofs.Common.{sym}
use Rattle.rc_tree.proofs.Forms.{not_empty}
use Rattle.rc_tree.proofs.empty.is_empty.Goals as goal

pub returns-in_default : goal.returns-in_default
returns-in_default c = sym (not_empty _ c.in_default.not-Empty)
