use Rattle.std.proofs.Common.{◌≡◌, ◌++◌, take, string_bytes}
use Rattle.std.specs.Str.{encode_utf8_all}
use Rattle.rc_glob.specs.Characters.{characters}
use Rattle.rc_glob.proofs.components.push_text.Given as goal

abbrev pub invariant-loop-ch : goal.invariant-loop-ch
invariant-loop-ch l = string_bytes l.path ≡ string_bytes l.fn.path ++ encode_utf8_all (characters (take l.ch-index l.word))
