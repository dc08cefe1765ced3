use Rattle.law_print.proofs.Tokens as tokens
use Rattle.law_print.proofs.written.printed_tokens.Goals as goal

pub returns : goal.returns
returns c = tokens.printed_tokens
