use Rattle.std.proofs.Common.{sym, ◌∙◌}
use Rattle.rc_host.proofs.Names.{unnamed, named_alone}
use Rattle.rc_host.proofs.ended.file_name.Goals as goal

pub returns-in_default : goal.returns-in_default
returns-in_default c = unnamed _ c.in_default.ensures.cases.0

pub returns : goal.returns
returns c = named_alone _ _ c.in-Ok.ensures.cases.0 c.in-Ok.ensures.cases.1 (sym c.eq.ensures ∙ c.if-eq.false) (sym c.eq-else-eq.ensures ∙ c.if-eq-2.false)
