use Rattle.std.proofs.Common.{ap, sym, ◌∙◌}
use Rattle.std.proofs.lemmas.Bool.{lt-leb}
use Rattle.rc_text.specs.Members.{among}
use Rattle.rc_text.proofs.Cuts.{none_above}
use Rattle.rc_text.proofs.members.separators.Separators.contains.Goals as goal

pub returns-else-c-self : goal.returns-else-c-self
returns-else-c-self c =
    lt-leb _ _ c.if-c-self.false ∙ sym (none_above _ _ _ c.self.invariant c.if-c-self.false) ∙ ap (λ cs. among cs c.args.c) c.self.view_is
