-- What entries are kept for.
use Rattle.std.specs.Prelude.{ℕ, List, drop}
use Rattle.rc_text.specs.Texts.{text_bytes}
use Rattle.rc_scope.specs.declared.kept_entries.KeptEntry.{KeptEntry}

-- the text of a value, or the image of a function, in a kept entry
abbrev pub kept_text : KeptEntry → List ℕ
kept_text kept = drop kept.start (text_bytes kept.entry)
