-- What was made of the calls that were shown.
use Rattle.std.specs.Prelude.{◌≡◌, List, Option}
use Rattle.rc_model.specs.Run.Calls.{Event, extend}

-- the record of a world has grown by these calls
abbrev pub HasMade : (before after : Option (List Event)) → (calls : List Event) → Type 0
HasMade before after calls = ∥ (after ≡ extend before calls) ∥₁
