use Rattle.std.proofs.Common.{◌≡◌, map, string_bytes, take}
use Rattle.rc_text.specs.Texts.{text_bytes}
use Rattle.rc_shell.proofs.family.children.strings.Given as goal

-- the texts so far are copied
abbrev pub invariant-loop-text : goal.invariant-loop-text
invariant-loop-text l = map string_bytes l.strings.items ≡ map text_bytes (take l.text-index l.texts)
