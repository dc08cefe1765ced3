use Rattle.std.proofs.Common.{sym}
use Rattle.rc_trace.proofs.Braces.{not_braced}
use Rattle.rc_trace.proofs.pieces.is_braced.Goals as goal

pub returns-in_default : goal.returns-in_default
returns-in_default c = sym (not_braced _ c.in_default.not-Brace)
