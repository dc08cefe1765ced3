use Rattle.std.proofs.Common.{◌≡◌, ◌++◌, map, string_bytes, drop}
use Rattle.std.specs.List.{concat}
use Rattle.rc_text.specs.Texts.{text_bytes}
use Rattle.rc_pipes.proofs.backquotes.concat.Given as goal

-- the texts so far and those that are left
abbrev pub invariant-loop-text : goal.invariant-loop-text
invariant-loop-text l =
    string_bytes l.all ++ concat (map text_bytes (drop l.text-index l.texts)) ≡ concat (map text_bytes l.texts)
