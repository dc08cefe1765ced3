use Rattle.std.proofs.Common.{sym, ◌∙◌}
use Rattle.rc_lexer.proofs.NoZero.{no_zero}
use Rattle.rc_lexer.proofs.pieces.zero_line.Goals as goal

pub returns-then-not-contains : goal.returns-then-not-contains
returns-then-not-contains c = no_zero 1 c.args.text.now (sym c.contains.ensures.value ∙ c.if-not-contains.true)
