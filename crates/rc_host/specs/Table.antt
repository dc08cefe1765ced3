-- A table of numbered things, as a list of places: a place holds a thing or is free.
use Rattle.std.specs.Prelude.{◌≡◌, ◌≢◌, ℕ, ◌+◌, ◌<◌, ◌≤◌, ◌^◌, List, length, Option, None, IsSome, IsSomeAnd}
use Rattle.std.specs.Prelude.{slice_index_or}
use Rattle.rc_model.specs.declared.call.Fault.{Fault}
use Rattle.rc_model.specs.declared.call.Fault.TheVariants.{Other, NoMemory}

-- what is held at a number, if anything
abbrev pub held_at : {T : Type 0} → List (Option T) → ℕ → Option T
held_at places n = slice_index_or places n None

-- no place before this one is free, and it is a place or the end of them
pub record HasNoneFreeBefore {T : Type 0} (places : List (Option T)) (first : ℕ) : Type 0 where
  pub within : first ≤ length places
  pub held : (k : ℕ) → k < first → IsSome (held_at places k)

-- the lowest of the free numbers from `start`
pub record IsLeastFreeFrom {T : Type 0} (places : List (Option T)) (start n : ℕ) : Type 0 where
  pub from : start ≤ n
  pub free : held_at places n ≡ None
  pub least : (k : ℕ) → start ≤ k → k < n → IsSome (held_at places k)

-- the lowest of all free numbers
abbrev pub IsLeastFree : {T : Type 0} → List (Option T) → ℕ → Type 0
IsLeastFree places n = IsLeastFreeFrom places 0 n

-- the two lowest free numbers, in order
pub record AreLeastFree {T : Type 0} (places : List (Option T)) (first second : ℕ) : Type 0 where
  pub one : IsLeastFree places first
  pub other : IsLeastFreeFrom places (first + 1) second

-- each number holds the same
abbrev pub HoldsTheSame : {T : Type 0} → List (Option T) → List (Option T) → Type 0
HoldsTheSame old new = (k : ℕ) → held_at new k ≡ held_at old k

-- this number holds that now, and each other number the same as before
pub record ChangesOnly {T : Type 0} (old new : List (Option T)) (n : ℕ) (held : Option T) : Type 0 where
  pub changed : held_at new n ≡ held
  pub others : (k : ℕ) → k ≢ n → held_at new k ≡ held_at old k

-- this number now holds a thing of this sort, and each other number the same as before
pub record Adds {T : Type 0} (old new : List (Option T)) (n : ℕ) (IsOfSort : T → Type 0) : Type 0 where
  pub added : IsSomeAnd (held_at new n) IsOfSort
  pub others : (k : ℕ) → k ≢ n → held_at new k ≡ held_at old k

-- why there is no room from `start`: out of memory, or each of these numbers is held
abbrev pub HasNoRoomFrom : {T : Type 0} → List (Option T) → ℕ → Fault → Type 0
HasNoRoomFrom places start NoMemory = Unit {0}
HasNoRoomFrom places start Other = (k : ℕ) → start ≤ k → k < 2 ^ 32 → IsSome (held_at places k)
HasNoRoomFrom places start _ = ⊥

-- why there is no room at all
abbrev pub HasNoRoom : {T : Type 0} → List (Option T) → Fault → Type 0
HasNoRoom places fault = HasNoRoomFrom places 0 fault

-- why there is no room for two: out of memory, or each number but one is held
abbrev pub HasNoRoomForTwo : {T : Type 0} → List (Option T) → Fault → Type 0
HasNoRoomForTwo places NoMemory = Unit {0}
HasNoRoomForTwo places Other = (n : ℕ) × ((k : ℕ) → k < 2 ^ 32 → k ≢ n → IsSome (held_at places k))
HasNoRoomForTwo places _ = ⊥
