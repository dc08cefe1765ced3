use Rattle.std.proofs.Common.{◌≡◌, map, take}
use Rattle.rc_text.specs.Texts.{text_bytes}
use Rattle.rc_host.proofs.launches.kept_environment.copies_of.Given as goal

abbrev pub invariant-loop-text : goal.invariant-loop-text
invariant-loop-text l = map text_bytes l.copies.items ≡ map text_bytes (take l.text-index l.texts)
