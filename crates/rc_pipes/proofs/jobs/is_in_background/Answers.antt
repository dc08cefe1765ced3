use Rattle.std.proofs.Common.{◌==◌, ap, ◌∙◌}
use Rattle.std.specs.List.{list_any}
use Rattle.rc_pipes.proofs.InOrder.{any_number}
use Rattle.rc_pipes.proofs.jobs.is_in_background.Goals as goal

pub returns : goal.returns
returns c =
    c.contains.ensures.value ∙ any_number c.args.child.0 c.children.result.now
    ∙ ap (list_any (λ number. number == c.args.child.0)) c.children.ensures
