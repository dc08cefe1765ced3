use Rattle.std.proofs.Common.{rules, ◌≡◌, ◌++◌}
use Rattle.std.specs.Char.{encode_utf8}
use Rattle.rc_glob.proofs.Lasts.{last_of, no_chars}
use Rattle.rc_glob.proofs.search.last_char.Goals as goal

pub returns-in-Some-clause-chars : goal.returns-in-Some-clause-chars
returns-in-Some-clause-chars c =
    let e : c.args.text.now ≡ c.as_str.result.now ++ encode_utf8 c.in-Some.last = search rules in
    last_of _ _ _ c.utf8.text c.as_str.utf8 e

pub returns-in-None-clause-chars : goal.returns-in-None-clause-chars
returns-in-None-clause-chars c = no_chars _ _ c.chars-front.ensures.rest c.in-None.ensures.steps.0
