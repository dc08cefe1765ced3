use Rattle.std.proofs.Common.{◌≡◌, map, string_bytes, take}
use Rattle.rc_text.specs.Texts.{text_bytes}
use Rattle.rc_trace.proofs.handing_world.texts_of.Given as goal

abbrev pub invariant-loop-string : goal.invariant-loop-string
invariant-loop-string l = map text_bytes l.texts.items ≡ map string_bytes (take l.string-index l.strings)
