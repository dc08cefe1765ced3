use Rattle.std.proofs.Common.{◌≡◌, length}
use Rattle.rc_model.specs.Syntax.Grammar.{past_newlines}
use Rattle.rc_parser.specs.Tokens.{lexemes_of}
use Rattle.rc_parser.proofs.token_stream.lookahead.past_newlines.Given as goal

abbrev pub invariant-loop-after : goal.invariant-loop-after
invariant-loop-after l = past_newlines (lexemes_of l.tokens) ≡ past_newlines (lexemes_of l.rest)

abbrev pub decreases-loop-after : goal.decreases-loop-after
decreases-loop-after l = length (lexemes_of l.rest)
