use Rattle.rc_parser.proofs.Spelled.{word_is_text}
use Rattle.rc_parser.proofs.token_stream.lookahead.lone_word.Goals as goal

pub returns-then-is_none-clause-text : goal.returns-then-is_none-clause-text
returns-then-is_none-clause-text c =
    let at = rw c.in-Some-Word-default-default.field-0-0-is at c.in-Some-Word-default-default.ensures in
    word_is_text _ _ _ at c.args.tokens.texts
