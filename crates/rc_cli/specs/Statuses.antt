-- The exit status of the process.
use Rattle.std.specs.Prelude.{◌≡◌, ◌≢◌, ℕ, ◌<◌, List, true, false}
use Rattle.std.specs.Fmt.{decimal}
use Rattle.rc_model.specs.Run.State.{is_true}

-- a true status is 0, the decimal of a number of 1 to 255 is that number, and any other is 1
pub record IsProcessStatus (status : List ℕ) (number : ℕ) : Type 0 where
  pub yes : is_true status ≡ true → number ≡ 0
  pub code : is_true status ≡ false → (n : ℕ) → 0 < n → n < 256 → status ≡ decimal n → number ≡ n
  pub other : is_true status ≡ false → ((n : ℕ) → 0 < n → n < 256 → status ≢ decimal n) → number ≡ 1
