use Rattle.std.proofs.Common.{◌∙◌, refl, sym}
use Rattle.rc_text.proofs.Marks.{text_unmarked}
use Rattle.rc_text.proofs.words.Word.unmarked.Goals as goal

pub returns : goal.returns
returns c = c.plain.ensures ∙ text_unmarked _ _ _ (sym c.take_text.ensures.characters) refl
