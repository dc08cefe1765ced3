use Rattle.std.proofs.Common.{◌≡◌, map, take}
use Rattle.rc_text.specs.Texts.{text_bytes}
use Rattle.rc_model.specs.Run.Lists.{selected}
use Rattle.rc_text.proofs.selection.select.Given as goal

abbrev pub invariant-loop-subscript : goal.invariant-loop-subscript
invariant-loop-subscript l = map text_bytes l.members.items ≡ selected (map text_bytes l.value) (map text_bytes (take l.subscript-index l.subscripts))
