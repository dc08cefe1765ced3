use Rattle.std.proofs.Common.{◌≡◌, ◌++◌, take}
use Rattle.rc_lexer.specs.Spans.{bare}
use Rattle.rc_lexer.proofs.lexer_state.dollars.push_as_bare.Given as goal

abbrev pub invariant-loop-dollar : goal.invariant-loop-dollar
invariant-loop-dollar l = l.tokens.items ≡ l.fn.tokens.items ++ bare (take l.dollar-index l.dollars)
