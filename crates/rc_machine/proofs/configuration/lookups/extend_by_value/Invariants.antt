use Rattle.std.proofs.Common.{map, take}
use Rattle.rc_text.specs.Texts.{text_bytes}
use Rattle.rc_model.specs.Syntax.Words.{plain_words}
use Rattle.rc_machine.specs.Lists.{Extends}
use Rattle.rc_machine.proofs.configuration.lookups.extend_by_value.Given as goal

abbrev pub invariant-loop-text : goal.invariant-loop-text
invariant-loop-text l = Extends l.fn.words l.words (plain_words (map text_bytes (take l.text-index l.value)))
