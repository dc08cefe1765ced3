use Rattle.std.proofs.Common.{◌≡◌, Err, rules, sym, ap, ◌∙◌}
use Rattle.rc_image.proofs.Beginnings.{image_other, image_is}
use Rattle.rc_image.proofs.check_tree.Goals as goal

pub returns-in_default : goal.returns-in_default
returns-in_default c = image_other c.args.text.now c.in_default.ensures.cases ∙ ap (λ f. Err f) (sym c.beginning_fault.ensures)

pub returns : goal.returns
returns c =
    let cut = c.in-Some.ensures.cases in
    let b : c.as_bytes.result.now ≡ c.in-Some.rest.now = search rules in
    rw (image_is c.args.text.now c.in-Some.rest.now cut.0 cut.1.1 cut.2, ← b) c.check_spelling.ensures
