use Rattle.std.proofs.Common.{rules, sym}
use Rattle.rc_image.proofs.Beginnings.{fault_other, fault_none, fault_version}
use Rattle.rc_image.proofs.beginning.beginning_fault.Goals as goal

pub returns-in_default : goal.returns-in_default
returns-in_default c = sym (fault_other c.args.text.now c.in_default.ensures.cases)

pub returns-then-has_version : goal.returns-then-has_version
returns-then-has_version c =
    let cut = c.in-Some.ensures.cases in
    sym (fault_version c.args.text.now c.in-Some.rest.now cut.0 cut.1.1 cut.2 (search rules))

pub returns-else-has_version : goal.returns-else-has_version
returns-else-has_version c =
    let cut = c.in-Some.ensures.cases in
    sym (fault_none c.args.text.now c.in-Some.rest.now cut.0 cut.1.1 cut.2 (search rules))
