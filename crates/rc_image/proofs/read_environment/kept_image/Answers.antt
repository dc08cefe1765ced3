use Rattle.rc_text.specs.Texts.{text_bytes}
use Rattle.rc_image.proofs.Handing.{function_after}
use Rattle.rc_image.proofs.read_environment.kept_image.Goals as goal

pub returns : goal.returns
returns c = function_after (text_bytes c.in_ok-entry.entry) c.args.name.now c.args.text.now c.in_ok-entry.ensures
