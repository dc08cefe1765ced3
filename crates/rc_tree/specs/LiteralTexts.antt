-- The texts of literals, wherever they stand.
use Rattle.std.specs.Prelude.{ℕ, List}
use Rattle.rc_tree.specs.Rooms.{bytes_in}
use Rattle.rc_tree.specs.declared.literal_text.LiteralText.{LiteralText}

-- the bytes of a literal
abbrev pub literal_bytes : LiteralText → List ℕ
literal_bytes text = bytes_in text.room
