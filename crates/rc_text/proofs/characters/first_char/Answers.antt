use Rattle.std.proofs.Common.{rules, ◌≡◌, ◌++◌}
use Rattle.std.specs.Char.{encode_utf8}
use Rattle.std.proofs.lemmas.Str.{chars_past_char}
use Rattle.rc_text.proofs.characters.first_char.Goals as goal

pub returns-clause-chars : goal.returns-clause-chars
returns-clause-chars c =
    let e : c.args.text.now ≡ encode_utf8 c.in_ok-first.first ++ c.as_str.result.now = search rules in
    chars_past_char _ _ _ c.utf8.text e
