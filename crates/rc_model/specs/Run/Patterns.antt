-- Patterns: which texts a word matches.
use Rattle.std.specs.Prelude.{ℕ, nat_le, Bool, true, false, not, ◌&&◌, ◌||◌, ◌==◌, if◌then◌else◌, List, [], ◌∷◌, ◌++◌}
use Rattle.std.specs.Prelude.{map, codes, bytes_eq}
use Rattle.std.specs.List.{list_any}
use Rattle.rc_model.specs.Syntax.Words.{Word, has_pattern}

-- what a part of a word stands for
pub data Pattern : Type 0 where
  -- this character
  This : ℕ → Pattern
  -- one character, any characters
  AnyOne : Pattern
  AnyRun : Pattern
  -- one character that the class holds, or doesn't hold
  OneOf : (members : Word) → (complement : Bool) → Pattern
  -- a class that isn't closed
  Unclosed : Pattern

-- a marked character
abbrev pub is_marked : ℕ → ℕ × Bool → Bool
is_marked c m = m.1 && (m.0 == c)

-- the character lies between the two
abbrev pub is_between : ℕ → ℕ → ℕ → Bool
is_between low high c = nat_le low c && nat_le c high

-- A class, read from the left: a marked `-` between two members is a range, whose ends belong to no other.
abbrev pub holds : Word → ℕ → Bool
holds [] c = false
holds (m ∷ []) c = m.0 == c
holds (m ∷ d ∷ []) c = (m.0 == c) || (d.0 == c)
holds (m ∷ d ∷ n ∷ ms) c =
    if is_marked 45 d then is_between m.0 n.0 c || holds ms c else (m.0 == c) || holds (d ∷ n ∷ ms) c

-- the class with these characters between its brackets
abbrev pub closed_class : Word → Pattern
closed_class [] = OneOf [] false
closed_class (m ∷ ms) = if is_marked 126 m then OneOf ms true else OneOf (m ∷ ms) false

-- the class read so far: none yet, or one with these characters
pub data ClassSoFar : Type 0 where
  Outside : ClassSoFar
  Inside : (members : Word) → ClassSoFar

-- what one character outside of classes stands for
abbrev pub outside : ℕ × Bool → List Pattern
outside m =
    if is_marked 42 m then AnyRun ∷ []
    else (if is_marked 63 m then AnyOne ∷ [] else (if is_marked 91 m then [] else This m.0 ∷ []))

-- whether it begins a class
abbrev pub class_begun_by : ℕ × Bool → ClassSoFar
class_begun_by m = if is_marked 91 m then Inside [] else Outside

-- the class that ends with one more character inside of it, if it does
abbrev pub inside : Word → ℕ × Bool → List Pattern
inside members m = if is_marked 93 m then closed_class members ∷ [] else []

-- whether the class goes on after it
abbrev pub class_after : Word → ℕ × Bool → ClassSoFar
class_after members m = if is_marked 93 m then Outside else Inside (members ++ m ∷ [])

-- the parts of a word
abbrev pub parts_from : ClassSoFar → Word → List Pattern
parts_from Outside [] = []
parts_from (Inside members) [] = Unclosed ∷ []
parts_from Outside (m ∷ ms) = outside m ++ parts_from (class_begun_by m) ms
parts_from (Inside members) (m ∷ ms) = inside members m ++ parts_from (class_after members m) ms

-- in path mode no pattern character stands for `/`
abbrev pub stands_for : (explicit : Bool) → ℕ → Bool
stands_for explicit c = not (explicit && (c == 47))

-- any characters, and what follows them
abbrev pub any_run : (explicit : Bool) → (List ℕ → Bool) → List ℕ → Bool
any_run explicit go [] = go []
any_run explicit go (c ∷ cs) = go (c ∷ cs) || (stands_for explicit c && any_run explicit go cs)

-- one character that satisfies this, and what follows it
abbrev pub one : (ℕ → Bool) → (List ℕ → Bool) → List ℕ → Bool
one test go [] = false
one test go (c ∷ cs) = test c && go cs

-- the parts match the characters
abbrev pub parts_match : (explicit : Bool) → List Pattern → List ℕ → Bool
parts_match explicit [] [] = true
parts_match explicit [] (c ∷ cs) = false
parts_match explicit (This d ∷ ps) cs = one (λ c. c == d) (parts_match explicit ps) cs
parts_match explicit (AnyOne ∷ ps) cs = one (stands_for explicit) (parts_match explicit ps) cs
parts_match explicit (AnyRun ∷ ps) cs = any_run explicit (parts_match explicit ps) cs
parts_match explicit (OneOf members true ∷ ps) cs =
    one (λ c. stands_for explicit c && not (holds members c)) (parts_match explicit ps) cs
parts_match explicit (OneOf members false ∷ ps) cs =
    one (λ c. stands_for explicit c && holds members c) (parts_match explicit ps) cs
parts_match explicit (Unclosed ∷ ps) cs = false

-- `.` and `..`
abbrev pub is_dots : List ℕ → Bool
is_dots cs = bytes_eq cs (codes ".") || bytes_eq cs (codes "..")

-- the word matches these characters
unfoldable pub matches : Word → List ℕ → (explicit : Bool) → Bool
matches w cs explicit =
    if explicit && (has_pattern w && is_dots cs) then false else parts_match explicit (parts_from Outside w) cs

-- one of the patterns matches the subject
abbrev pub matched : List Word → List Word → Bool
matched subject patterns = list_any (λ p. list_any (λ w. matches p (map (λ m. m.0) w) false) subject) patterns
