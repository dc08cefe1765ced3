use Rattle.std.proofs.Common.{ap, map, false, true, ◌∙◌}
use Rattle.std.proofs.lemmas.Str.{chars-nil}
use Rattle.rc_model.specs.Syntax.Words.{written}
use Rattle.rc_text.proofs.words.Word.empty.Goals as goal

pub returns : goal.returns
returns c = c.plain.ensures ∙ ap (λ t. written t true) c.new.ensures ∙ ap (map (λ x. (x, false))) chars-nil
