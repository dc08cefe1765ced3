use Rattle.std.proofs.Common.{◌≡◌, drop, map}
use Rattle.rc_text.specs.Texts.{text_bytes}
use Rattle.rc_model.specs.Run.Builtins.{without_functions}
use Rattle.rc_model.specs.declared.call.Slots.{Slots}
use Rattle.rc_builtin.proofs.builtins.leading_builtins.Given as goal

-- the words that are left do what all words do
abbrev pub invariant-loop-word : goal.invariant-loop-word
invariant-loop-word l =
    (l.count ≡ l.word-index)
    × ((slots : Slots) → without_functions slots (map text_bytes l.words) ≡ without_functions slots (map text_bytes (drop l.word-index l.words)))
