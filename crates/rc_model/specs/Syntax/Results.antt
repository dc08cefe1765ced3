-- Sequencing of results: a computation goes on as long as there is no fault.
use Rattle.std.specs.Prelude.{Result, Ok, Err}

-- one step after another: the second is given what the first made
infixl 10 ◌>>=◌
abbrev pub ◌>>=◌ : {F A B : Type 0} → Result A F → (A → Result B F) → Result B F
(Ok x) >>= f = f x
(Err e) >>= f = Err e
