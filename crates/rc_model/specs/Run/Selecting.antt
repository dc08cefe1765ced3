-- What a subscript selects, as a relation.
use Rattle.std.specs.Prelude.{◌≡◌, ℕ, suc, nat_le, ◌&&◌, if◌then◌else◌, List, [], ◌∷◌, ◌++◌, length, Some}
use Rattle.rc_model.specs.Run.Numbers.{number_of}

-- The places from the first to the last that a subscript names in a list of a given length, counted from 1.
pub data Names (count : ℕ) (text : List ℕ) : ℕ → ℕ → Type 0 where
  -- `m`
  one : (m : ℕ) → number_of text ≡ Some m → Names count text m m
  -- `m-n`
  range : (a b : List ℕ) (m n : ℕ) → text ≡ a ++ 45 ∷ b → number_of a ≡ Some m → number_of b ≡ Some n →
      Names count text m n
  -- `m-`
  onward : (a : List ℕ) (m : ℕ) → text ≡ a ++ 45 ∷ [] → number_of a ≡ Some m → Names count text m count

-- the members whose places are between two, given the place of the first member
abbrev pub members_between : (first last place : ℕ) → List (List ℕ) → List (List ℕ)
members_between first last place [] = []
members_between first last place (x ∷ xs) =
    if nat_le first place && nat_le place last then x ∷ members_between first last (suc place) xs
    else members_between first last (suc place) xs

-- what a subscript selects
pub data Selects (value : List (List ℕ)) (text : List ℕ) : List (List ℕ) → Type 0 where
  -- the members at the places that it names
  places : (first last : ℕ) → Names (length value) text (suc first) last →
      Selects value text (members_between (suc first) last 1 value)
  -- no place is 0
  at_zero : (last : ℕ) → Names (length value) text 0 last → Selects value text []
  -- any other text
  other : ((first last : ℕ) → Names (length value) text first last → ⊥) → Selects value text []
