use Rattle.std.proofs.Common.{◌≡◌, map}
use Rattle.rc_model.specs.Syntax.Words.{plain_words}
use Rattle.rc_text.specs.Texts.{text_bytes}
use Rattle.rc_text.proofs.words.lists.List.plain.Given as goal

abbrev pub invariant-loop-text : goal.invariant-loop-text
invariant-loop-text l = l.words.items ≡ plain_words (map text_bytes l.yielded)
