use Rattle.std.proofs.Common.{◌≡◌, map, take, string_bytes}
use Rattle.rc_model.specs.Syntax.Words.{word_texts}
use Rattle.rc_machine.proofs.configuration.lookups.texts.Given as goal

abbrev pub invariant-loop-word : goal.invariant-loop-word
invariant-loop-word l = map string_bytes l.texts.items ≡ word_texts (take l.word-index l.words)
