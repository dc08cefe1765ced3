-- Characters with their marks as the definitions have them.
use Rattle.std.specs.Prelude.{ℕ, Bool, List, map}
use Rattle.rc_text.specs.declared.words.literal.Ch.{Ch}

-- a character and its mark
abbrev pub mark_of : Ch → ℕ × Bool
mark_of ch = (ch.c, ch.pat)

-- the characters of a word, each with its mark
abbrev pub marks : List Ch → List (ℕ × Bool)
marks chs = map mark_of chs
