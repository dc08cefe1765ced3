use Rattle.law_syntax.proofs.Spelled.{spelled_tokens}
use Rattle.law_syntax.proofs.tokens.spelling.Goals as goal

pub returns : goal.returns
returns c = spelled_tokens
