use Rattle.std.proofs.Common.{subst, sym}
use Rattle.rc_text.specs.Texts.{text_bytes}
use Rattle.rc_text.specs.Views.{AreMarked}
use Rattle.rc_text.proofs.MarkedRuns.{plain_fits}
use Rattle.rc_text.proofs.words.Word.plain.Goals as goal

pub invariant_of-result : goal.invariant_of-result
invariant_of-result c =
    let text = text_bytes c.args.text in
    subst (AreMarked text) (sym c.one-marks.ensures) (plain_fits text)
