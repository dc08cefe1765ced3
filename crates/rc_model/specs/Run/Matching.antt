-- What a word matches, as a relation, by cases on the word.
use Rattle.std.specs.Prelude.{◌≡◌, ◌≤◌, ℕ, Bool, true, false, not, if◌then◌else◌, List, [], ◌∷◌, ◌++◌}
use Rattle.std.specs.List.{list_all}
use Rattle.rc_model.specs.Syntax.Words.{Word, has_pattern}
use Rattle.rc_model.specs.Run.Patterns.{is_marked, stands_for, is_dots}

-- the role of a character in a word
pub data Role : Type 0 where
  Star : Role
  Question : Role
  Open : Role
  Plain : Role

-- marked `*`, `?` and `[` are pattern characters
abbrev pub role : ℕ × Bool → Role
role m =
    if is_marked 42 m then Star else (if is_marked 63 m then Question else (if is_marked 91 m then Open else Plain))

-- a marked `]`
abbrev pub is_close : ℕ × Bool → Bool
is_close m = is_marked 93 m

-- a member, a marked `-` and a further member
abbrev pub begins_range : Word → Bool
begins_range [] = false
begins_range (m ∷ []) = false
begins_range (m ∷ d ∷ []) = false
begins_range (m ∷ d ∷ n ∷ ms) = is_marked 45 d

-- The character is one of these members, or is in one of their ranges, which are read from the left.
pub data IsMember (c : ℕ) : Word → Type 0 where
  single : (m : ℕ × Bool) (ms : Word) → begins_range (m ∷ ms) ≡ false → m.0 ≡ c → IsMember c (m ∷ ms)
  after_single : (m : ℕ × Bool) (ms : Word) → begins_range (m ∷ ms) ≡ false → IsMember c ms → IsMember c (m ∷ ms)
  range : (m d n : ℕ × Bool) (ms : Word) → is_marked 45 d ≡ true → m.0 ≤ c → c ≤ n.0 → IsMember c (m ∷ d ∷ n ∷ ms)
  after_range : (m d n : ℕ × Bool) (ms : Word) → is_marked 45 d ≡ true → IsMember c ms → IsMember c (m ∷ d ∷ n ∷ ms)

-- The class with these characters between its brackets holds the character. A marked `~` in front complements; an empty
-- class holds nothing.
pub data IsHeld (c : ℕ) : Word → Type 0 where
  among : (m : ℕ × Bool) (ms : Word) → is_marked 126 m ≡ false → IsMember c (m ∷ ms) → IsHeld c (m ∷ ms)
  apart : (m : ℕ × Bool) (ms : Word) → is_marked 126 m ≡ true → (IsMember c ms → ⊥) → IsHeld c (m ∷ ms)

-- The word fits the characters. A class that isn't closed fits nothing.
pub data Fits (explicit : Bool) : Word → List ℕ → Type 0 where
  -- nothing is left of either
  end : Fits explicit [] []
  -- a character that isn't a pattern character stands for itself
  itself : (m : ℕ × Bool) (word : Word) (c : ℕ) (text : List ℕ) → role m ≡ Plain → m.0 ≡ c → Fits explicit word text →
      Fits explicit (m ∷ word) (c ∷ text)
  -- `?` stands for one character
  question : (m : ℕ × Bool) (word : Word) (c : ℕ) (text : List ℕ) → role m ≡ Question → stands_for explicit c ≡ true →
      Fits explicit word text → Fits explicit (m ∷ word) (c ∷ text)
  -- `*` stands for any prefix of the text
  star : (m : ℕ × Bool) (word : Word) (all front text : List ℕ) → role m ≡ Star → list_all (stands_for explicit) front
      ≡ true → all ≡ front ++ text → Fits explicit word text → Fits explicit (m ∷ word) all
  -- a class, up to the next marked `]`, stands for one character that it holds
  class : (m : ℕ × Bool) (rest members : Word) (close : ℕ × Bool) (word : Word) (c : ℕ) (text : List ℕ) → role m
      ≡ Open → rest ≡ members ++ close ∷ word →
      list_all (λ x. not (is_close x)) members ≡ true → is_close close ≡ true → IsHeld c members → stands_for explicit c
      ≡ true → Fits explicit word text → Fits explicit (m ∷ rest) (c ∷ text)

-- The word matches the text, given by its characters. In path mode it matches `.` and `..` only if it has no pattern
-- character.
pub record Matches (explicit : Bool) (word : Word) (text : List ℕ) : Type 0 where
  pub fits : Fits explicit word text
  pub spelled_out : explicit ≡ true → has_pattern word ≡ true → is_dots text ≡ false
