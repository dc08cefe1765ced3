use Rattle.std.proofs.Common.{◌≡◌, ◌++◌, map, string_bytes}
use Rattle.rc_text.specs.Texts.{text_bytes}
use Rattle.rc_image.proofs.text_copies.push_words.Given as goal

-- the words so far are added
abbrev pub invariant-loop-word : goal.invariant-loop-word
invariant-loop-word l =
    map text_bytes l.out.items ≡ map text_bytes l.initial.out.items ++ map string_bytes l.yielded
