use Rattle.std.proofs.Common.{◌≡◌, ◌∷◌, [], ap, sym, ◌∙◌, map}
use Rattle.std.proofs.lemmas.Result.{IfOk-weaker}
use Rattle.rc_text.specs.Texts.{text_bytes}
use Rattle.rc_model.specs.Handed.Environment.{entry_members}
use Rattle.rc_image.proofs.Escapes.{only_member}
use Rattle.rc_image.proofs.cut_entries.members.Goals as goal

pub returns : goal.returns
returns c =
    let text = c.args.text.now in
    let one = only_member text (sym c.has_marks.ensures ∙ c.if-has_marks.false) in
    IfOk-weaker c.one.result (λ texts. texts.items ≡ c.in_ok-of.field-0 ∷ []) (λ texts. map text_bytes texts.items ≡ entry_members text)
    (λ texts e. ap (map text_bytes) e ∙ ap (λ t. t ∷ []) c.in_ok-of.ensures ∙ sym one) c.one.ensures
