use Rattle.std.proofs.Common.{◌==◌, ap, sym, ◌∙◌, not}
use Rattle.std.specs.List.{list_any}
use Rattle.rc_tree.proofs.Fitting.{zero_sought}
use Rattle.rc_tree.proofs.soundness.without_zero.Goals as goal

pub returns : goal.returns
returns c =
    ap not (c.contains.ensures.value ∙ ap (list_any (λ b. b == 0)) c.as_bytes.ensures.value) ∙ sym (zero_sought c.args.text.now)
