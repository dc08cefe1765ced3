use Rattle.rc_parser.proofs.Spelled.{name_said_is_text, quoted_is_text}
use Rattle.rc_parser.proofs.descent.variable_names.+parse_name.Goals as goal

pub parse_plain-requires : goal.parse_plain-requires
parse_plain-requires t c =
    let at = rw c.in-Some-Name-default-default.field-0-0-is at c.in-Some-Name-default-default.ensures in
    name_said_is_text _ _ _ at c.args.tokens.texts

pub parse_quoted-requires : goal.parse_quoted-requires
parse_quoted-requires t c =
    let at = rw c.in-Some-Quoted-default-default.field-0-0-is at c.in-Some-Quoted-default-default.ensures in
    quoted_is_text _ _ _ at c.args.tokens.texts
