use Rattle.std.proofs.Common.{◌≤◌, length, string_bytes, subst}
use Rattle.rc_model.specs.Syntax.Accepted.{longest_script}
use Rattle.rc_check.proofs.Laws.{has_form}
use Rattle.rc_check.proofs.canonical_form.canonical_text.Goals as goal

pub returns-in_ok-ended-in-Ok : goal.returns-in_ok-ended-in-Ok
returns-in_ok-ended-in-Ok c =
    let short : length (string_bytes c.in-Ok.text) ≤ longest_script = subst (λ t. length t ≤ longest_script) c.as_str.ensures.value (c.is_short.ensures.0 c.if-is_short.true) in
    (_, has_form _ _ _ _ c.requires c.in-Ok.ensures.without c.in-Ok.ensures.text short c.in_ok-ended-in-Ok.ensures)
