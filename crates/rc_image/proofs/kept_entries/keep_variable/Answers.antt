use Rattle.std.proofs.Common.{◌∙◌, ap, map}
use Rattle.rc_text.specs.Texts.{text_bytes}
use Rattle.rc_model.specs.Handed.Image.{value_text}
use Rattle.rc_image.proofs.Handing.{value_after}
use Rattle.rc_image.proofs.kept_entries.keep_variable.Goals as goal

pub keep_entry-requires : goal.keep_entry-requires
keep_entry-requires c =
    value_after (text_bytes c.in_ok-entry.entry) c.args.name.now (value_text (map text_bytes c.value.result.now)) c.in_ok-entry.ensures
    ∙ ap value_text c.value.ensures
