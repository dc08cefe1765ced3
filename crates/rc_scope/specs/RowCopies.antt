-- Copies of rows.
use Rattle.std.specs.Prelude.{◌≡◌, string_bytes}
use Rattle.rc_scope.specs.Copies.{IsValueCopy, AreCopies}
use Rattle.rc_scope.specs.Rows.{entries_in}
use Rattle.rc_scope.specs.declared.variables.name_rows.Entry.{Entry}
use Rattle.rc_scope.specs.declared.variables.name_rows.Row.{Row}

-- a copy of an entry
abbrev pub IsEntryCopy : Entry → Entry → Type 0
IsEntryCopy e f = (string_bytes f.name ≡ string_bytes e.name) × IsValueCopy e.value f.value

-- a row of copies
abbrev pub IsRowCopy : Row → Row → Type 0
IsRowCopy r t = AreCopies (entries_in r) (entries_in t)
