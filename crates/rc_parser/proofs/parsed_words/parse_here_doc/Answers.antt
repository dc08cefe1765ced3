use Rattle.std.proofs.Common.{sym, subst}
use Rattle.std.specs.Str.{IsUtf8}
use Rattle.rc_parser.proofs.Spelled.{body_is_text}
use Rattle.rc_parser.proofs.parsed_words.parse_here_doc.Goals as goal

pub here-requires : goal.here-requires
here-requires c =
    let at = rw c.in-Some-HereDoc-default-default.field-0-0-is at c.in-Some-HereDoc-default-default.ensures in
    subst (λ bs. IsUtf8 bs) (sym c.part.ensures) (body_is_text _ _ _ _ at c.args.tokens.texts)
