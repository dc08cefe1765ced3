-- The argument of `wait`, and its effect.
use Rattle.std.specs.Borrow.{Bor}
use Rattle.std.specs.Prelude.{ℕ, List, [], ◌∷◌, Option, Some, None}
use Rattle.rc_model.specs.Run.State.{State, with_status}

-- the words after `wait`: a number, or nothing
abbrev pub arguments_of : Option (Bor (List ℕ)) → List (List ℕ)
arguments_of None = []
arguments_of (Some number) = number.now ∷ []

-- a state with this status, and with these children in the background
abbrev pub with_jobs : State → (status : List ℕ) → (children : List ℕ) → State
with_jobs s status children = record (with_status s status) { background = children }
