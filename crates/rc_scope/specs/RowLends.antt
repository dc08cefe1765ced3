-- What a row is once the value that it lends is given back.
use Rattle.std.specs.Prelude.{◌≡◌, ℕ, List, Option}
use Rattle.std.specs.Borrow.{LendsSo, MutBor, Fml}
use Rattle.std.specs.Map.{set_value, keys_of}
use Rattle.rc_scope.specs.Rows.{is_named, entries_in}
use Rattle.rc_scope.specs.contracts.variables.name_rows.Row.{the_row}
use Rattle.rc_scope.specs.contracts.variables.value_rows.Value.{the_row as value_row}
use Rattle.rc_scope.specs.declared.variables.name_rows.Row.{Row}
use Rattle.rc_scope.specs.declared.variables.value_rows.Value.{Value}

-- a name has another value in a row, if it has one, and the names are those before
abbrev pub IsWritten : List ℕ → (before after : Row) → Value → Type 0
IsWritten name before after value =
    (entries_in after ≡ set_value (is_named name) (entries_in before) value)
    × (keys_of (entries_in after) ≡ keys_of (entries_in before))

-- the row has the last value that was written through what it lent for a name, and is unchanged if it lent nothing
abbrev pub LendsValue : MutBor Row → List ℕ → Option (MutBor Value) → Fml
LendsValue row name lent =
    LendsSo the_row value_row row lent (λ after value. IsWritten name row.now after value)
    (λ after. after ≡ row.now)
