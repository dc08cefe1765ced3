use Rattle.std.proofs.Common.{◌≤◌, sym, ◌∙◌, arith}
use Rattle.rc_model.specs.Run.Numbers.{greatest_number}
use Rattle.rc_spelling.specs.Steps.{value_from}
use Rattle.rc_image.proofs.Beginnings.{version_some}
use Rattle.rc_image.proofs.beginning.has_version.Goals as goal

pub returns-in-Some-split_first : goal.returns-in-Some-split_first
returns-in-Some-split_first c =
    let small : value_from 0 c.args.bytes.now ≤ greatest_number = omega (arith, c.in-Some.ensures.0, c.in-Some.ensures.2) in
    sym (version_some c.in-Some-split_first.byte.now c.args.bytes.now c.in-Some.rest.now _
    (sym c.begins_number.ensures ∙ c.if-not-begins_number.false) small c.in-Some.ensures.1 c.in-Some-split_first.ensures.cases.0)
