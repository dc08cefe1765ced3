use Rattle.std.proofs.Common.{◌≡◌, map, string_bytes}
use Rattle.rc_model.specs.Syntax.Words.{word_texts}
use Rattle.rc_text.proofs.words.lists.List.into_texts.Given as goal

abbrev pub invariant-loop-word : goal.invariant-loop-word
invariant-loop-word l = map string_bytes l.texts.items ≡ word_texts l.yielded
