use Rattle.std.proofs.Common.{◌≡◌, ◌∷◌, string_bytes}
use Rattle.std.specs.Str.{encode_utf8_all}
use Rattle.rc_model.specs.Syntax.Tokens.{doubled_quotes}
use Rattle.rc_text.proofs.words.quoting.quote.Given as goal

abbrev pub invariant-loop-c : goal.invariant-loop-c
invariant-loop-c l = string_bytes l.quoted ≡ 39 ∷ doubled_quotes (encode_utf8_all l.yielded)
