use Rattle.std.proofs.Common.{◌≡◌, ◌++◌, length, map, reverse}
use Rattle.rc_text.specs.Texts.{text_bytes}
use Rattle.rc_machine.specs.Tops.{uppermost}
use Rattle.rc_machine.specs.Lists.{below_top}
use Rattle.rc_model.specs.Syntax.Words.{word_texts}
use Rattle.rc_machine.proofs.configuration.lookups.take_texts.Given as goal

abbrev pub invariant-loop-word : goal.invariant-loop-word
invariant-loop-word l = record {
  texts : word_texts (uppermost l.words) ++ reverse (map text_bytes l.texts.items) ≡ word_texts (uppermost l.fn.words);
  below : below_top l.words ≡ below_top l.fn.words;
}

abbrev pub decreases-loop-word : goal.decreases-loop-word
decreases-loop-word l = length (uppermost l.words)
