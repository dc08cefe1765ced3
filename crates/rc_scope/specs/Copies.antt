-- Copies of values, of locals and of the entries of a map.
use Rattle.std.specs.Prelude.{◌≡◌, List, string_bytes}
use Rattle.std.specs.List.{AllZip}
use Rattle.std.specs.declared.alloc.Global.{Global}
use Rattle.std.specs.declared.string.String.{String}
use Rattle.rc_scope.specs.Stacks.{texts_of}
use Rattle.rc_scope.specs.Locals.{name_of}
use Rattle.rc_scope.specs.declared.variables.value_rows.Value.{Value}
use Rattle.rc_scope.specs.declared.variables.locals.Local.{Local}
use Rattle.rc_scope.specs.declared.variables.locals.LocalName.{LocalName}

-- a copy of a value
abbrev pub IsValueCopy : Value → Value → Type 0
IsValueCopy v w = (texts_of w ≡ texts_of v) × (w.covers ≡ v.covers)

-- a copy of a name
abbrev pub IsNameCopy : LocalName → LocalName → Type 0
IsNameCopy n m = name_of m ≡ name_of n

-- a copy of a local
abbrev pub IsLocalCopy : Local → Local → Type 0
IsLocalCopy l m = IsNameCopy l.name m.name × IsValueCopy l.covered m.covered

-- copies of the entries of a map
abbrev pub AreCopies : List (String Global × Value) → List (String Global × Value) → Type 0
AreCopies es fs = AllZip (λ e f. (string_bytes f.0 ≡ string_bytes e.0) × IsValueCopy e.1 f.1) es fs
