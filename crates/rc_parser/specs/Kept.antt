-- The part of a text that a reader keeps.
use Rattle.std.specs.Prelude.{◌≡◌, ◌<◌, ◌+◌, ◌⊎◌, ℕ}
use Rattle.rc_model.specs.Syntax.Accepted.{longest_script}

-- The room is what a script may have beyond the kept bytes, and no others came, or more came than there is room for.
pub record IsKept (kept room passed : ℕ) : Type 0 where
  pub room_is : kept + room ≡ longest_script
  pub all_or_more : (passed ≡ 0) ⊎ (room < passed)
