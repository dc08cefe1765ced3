-- Where the texts of literals stand.
use Rattle.std.specs.Prelude.{ℕ, List, string_bytes}
use Rattle.rc_tree.specs.declared.literal_text.Room.{Room}
use Rattle.rc_tree.specs.declared.literal_text.Room.TheVariants.{InPlace, Owned}

-- the bytes that stand in this room
abbrev pub bytes_in : Room → List ℕ
bytes_in (InPlace text) = text.bytes
bytes_in (Owned text) = string_bytes text
