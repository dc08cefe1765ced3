use Rattle.std.proofs.Common.{◌≡◌, ◌++◌, map, take}
use Rattle.rc_text.specs.Texts.{text_bytes}
use Rattle.rc_image.proofs.text_copies.push_copies.Given as goal

-- the texts so far are copied
abbrev pub invariant-loop-text : goal.invariant-loop-text
invariant-loop-text l =
    map text_bytes l.out.items ≡ map text_bytes l.initial.out.items ++ map text_bytes (take l.text-index l.texts)
