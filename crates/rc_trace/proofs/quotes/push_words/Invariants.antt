use Rattle.std.proofs.Common.{◌≡◌, ◌++◌, map, take, string_bytes}
use Rattle.std.specs.List.{flat_map}
use Rattle.rc_text.specs.Texts.{text_bytes}
use Rattle.rc_trace.specs.Quotes.{parted_word}
use Rattle.rc_trace.proofs.quotes.push_words.Given as goal

abbrev pub invariant-loop-word : goal.invariant-loop-word
invariant-loop-word l = string_bytes l.out ≡ string_bytes l.initial.out ++ flat_map parted_word (map text_bytes (take l.word-index l.words))
