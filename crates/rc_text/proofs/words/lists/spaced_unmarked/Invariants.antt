use Rattle.std.proofs.Common.{◌≡◌, ◌∷◌, ◌++◌, take, false, true, string_bytes}
use Rattle.std.specs.List.{flat_map}
use Rattle.rc_model.specs.Syntax.Words.{unmarked, written}
use Rattle.rc_text.proofs.words.lists.spaced_unmarked.Given as goal

abbrev pub invariant-loop-word : goal.invariant-loop-word
invariant-loop-word l =
    written (string_bytes l.joined) true ≡ written (string_bytes l.initial.joined) true ++ flat_map (λ v. (32, false) ∷ unmarked v) (take l.word-index l.others)
