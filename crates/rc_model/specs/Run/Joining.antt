-- How two lists are joined, as a relation.
use Rattle.std.specs.Prelude.{◌≡◌, ◌≢◌, List, [], ◌∷◌, ◌++◌, map, length, Result, Ok, Err}
use Rattle.rc_model.specs.Syntax.Words.{Word}
use Rattle.rc_model.specs.Run.Lists.{ListFault, EmptyConcat, CountMismatch}

-- each word with the one at the same index
pub data Pairs : List Word → List Word → List Word → Type 0 where
  none : Pairs [] [] []
  pair : (a b : Word) (as' bs cs : List Word) → Pairs as' bs cs → Pairs (a ∷ as') (b ∷ bs) ((a ++ b) ∷ cs)

-- two lists and the result of joining them
pub data Joins (xs ys : List Word) : Result (List Word) ListFault → Type 0 where
  -- equal counts join pairwise
  pairs : (zs : List Word) → Pairs xs ys zs → Joins xs ys (Ok zs)
  -- one member goes to each of the other side, which isn't empty
  before : (a : Word) → xs ≡ a ∷ [] → ys ≢ [] → length ys ≢ 1 → Joins xs ys (Ok (map (λ b. a ++ b) ys))
  after : (b : Word) → ys ≡ b ∷ [] → xs ≢ [] → length xs ≢ 1 → Joins xs ys (Ok (map (λ a. a ++ b) xs))
  -- exactly one side is empty
  left_empty : xs ≡ [] → ys ≢ [] → Joins xs ys (Err EmptyConcat)
  right_empty : ys ≡ [] → xs ≢ [] → Joins xs ys (Err EmptyConcat)
  -- other counts
  mismatch : length xs ≢ length ys → xs ≢ [] → ys ≢ [] → length xs ≢ 1 → length ys ≢ 1 → Joins xs ys (Err CountMismatch)
