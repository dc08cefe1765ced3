-- Where texts stand.
use Rattle.std.specs.Prelude.{ℕ, List, string_bytes}
use Rattle.rc_text.specs.declared.texts.Room.{Room}
use Rattle.rc_text.specs.declared.texts.Room.TheVariants.{InPlace, Shared}

-- the bytes that stand in this room
abbrev pub bytes_in : Room → List ℕ
bytes_in (InPlace text) = text.bytes
bytes_in (Shared text) = string_bytes text.value
