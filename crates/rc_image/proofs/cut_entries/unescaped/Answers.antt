use Rattle.std.proofs.Common.{◌≡◌, sym, ◌∙◌}
use Rattle.std.proofs.lemmas.Result.{IfOk-weaker}
use Rattle.rc_text.specs.Texts.{text_bytes}
use Rattle.rc_model.specs.Handed.Environment.{unescaped}
use Rattle.rc_image.proofs.Escapes.{as_it_is}
use Rattle.rc_image.proofs.cut_entries.unescaped.Goals as goal

pub returns : goal.returns
returns c =
    let text = c.args.text.now in
    let plain = as_it_is text (sym c.has_marks.ensures ∙ c.if-has_marks.false) in
    IfOk-weaker c.of.result (λ t. text_bytes t ≡ text) (λ t. text_bytes t ≡ unescaped text) (λ t e. e ∙ sym plain) c.of.ensures
