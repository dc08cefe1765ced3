use Rattle.std.proofs.Common.{◌≡◌, ◌++◌, drop, map, string_bytes}
use Rattle.std.specs.List.{concat}
use Rattle.rc_image.proofs.image_words.joined.Given as goal

-- what was joined, with the texts that are left, is the whole
abbrev pub invariant-loop-text : goal.invariant-loop-text
invariant-loop-text l = string_bytes l.all ++ concat (map string_bytes (drop l.text-index l.texts)) ≡ concat (map string_bytes l.texts)
