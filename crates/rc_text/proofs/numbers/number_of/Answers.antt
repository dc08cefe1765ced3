use Rattle.std.proofs.Common.{sym, ◌∙◌}
use Rattle.rc_text.proofs.Digits.{number_read}
use Rattle.rc_text.proofs.numbers.number_of.Goals as goal

pub returns-then-is_digits : goal.returns-then-is_digits
returns-then-is_digits c = c.ok.ensures.value ∙ number_read c.args.text.now _ (sym c.is_digits.ensures ∙ c.if-is_digits.true) c.parse.ensures.value.0
