use Rattle.std.proofs.Common.{lit<, ap, sym, ◌∙◌, None, eqb, map}
use Rattle.std.proofs.lemmas.Str.Pattern.{split_once_first}
use Rattle.rc_text.specs.Texts.{text_bytes}
use Rattle.rc_model.specs.Run.Lists.{member}
use Rattle.rc_text.proofs.Places.{none_passes, one_place}
use Rattle.rc_text.proofs.selection.selected_by.Goals as goal

pub returns-in-None : goal.returns-in-None
returns-in-None c =
    c.member.ensures ∙ ap (member (map text_bytes c.args.value.now)) c.number_of-in-None.ensures
    ∙ sym (one_place _ c.args.subscript.now (none_passes (λ b. eqb b 45) c.args.subscript.now (split_once_first 45 c.args.subscript.now None c.in-None.ensures.cases (lit< tt))))
