-- Texts, wherever they stand.
use Rattle.std.specs.Prelude.{ℕ, List}
use Rattle.rc_text.specs.Rooms.{bytes_in}
use Rattle.rc_text.specs.declared.texts.Text.{Text}

-- the bytes of a text
abbrev pub text_bytes : Text → List ℕ
text_bytes text = bytes_in text.room
