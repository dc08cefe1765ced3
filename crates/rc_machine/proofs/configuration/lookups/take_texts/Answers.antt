use Rattle.std.proofs.Common.{◌∙◌, ap, map}
use Rattle.rc_text.specs.Texts.{text_bytes}
use Rattle.rc_machine.proofs.Takes.{all_taken, map-reverse}
use Rattle.rc_machine.proofs.configuration.lookups.take_texts.Goals as goal

pub returns-clause-texts : goal.returns-clause-texts
returns-clause-texts c =
    ap (map text_bytes) c.reverse.ensures.items ∙ map-reverse text_bytes c.loop-word.texts.items
    ∙ all_taken _ _ (map text_bytes c.loop-word.texts.items) _ c.in_default.ensures c.loop-word.invariant.texts
