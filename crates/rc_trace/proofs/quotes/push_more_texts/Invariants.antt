use Rattle.std.proofs.Common.{◌≡◌, ◌++◌, map, take, string_bytes}
use Rattle.std.specs.List.{flat_map}
use Rattle.rc_text.specs.Texts.{text_bytes}
use Rattle.rc_trace.specs.Quotes.{further_text}
use Rattle.rc_trace.proofs.quotes.push_more_texts.Given as goal

abbrev pub invariant-loop-text : goal.invariant-loop-text
invariant-loop-text l = string_bytes l.out ≡ string_bytes l.initial.out ++ flat_map further_text (map text_bytes (take l.text-index l.texts))
