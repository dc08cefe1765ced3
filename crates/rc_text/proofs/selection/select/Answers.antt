use Rattle.std.proofs.Common.{ap, ◌∙◌, map}
use Rattle.rc_text.specs.Texts.{text_bytes}
use Rattle.rc_model.specs.Run.Lists.{selected_by}
use Rattle.rc_text.proofs.Places.{select_step}
use Rattle.rc_text.proofs.selection.select.Goals as goal

pub loop-subscript-preserved : goal.loop-subscript-preserved
loop-subscript-preserved c = select_step _ _ _ _ _ _ _ c.loop-subscript-test.true c.subscript-item.is c.in_ok-extend_with_clones.ensures.items
    (c.selected_by.ensures ∙ ap (selected_by (map text_bytes c.args.value.now)) c.as_str.ensures) c.loop-subscript.invariant
