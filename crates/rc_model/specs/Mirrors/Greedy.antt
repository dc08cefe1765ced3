-- Greedy matching: from left to right with one place to go back to, move by move.
use Rattle.std.specs.Prelude.{ℕ, zero, suc, ◌*◌, ◌==◌, Bool, true, false, not, if◌then◌else◌, ◌&&◌, List, [], ◌∷◌}
use Rattle.std.specs.Prelude.{length, Option, Some, None}
use Rattle.rc_model.specs.Syntax.Words.{Word, has_pattern}
use Rattle.rc_model.specs.Run.Patterns.{is_marked, stands_for, is_dots, holds}
use Rattle.rc_model.specs.Run.Matching.{Role, Star, Question, Open, Plain, role, is_close}

-- whether the class with these characters between its brackets holds c
abbrev pub class_holds : Word → ℕ → Bool
class_holds [] c = false
class_holds (m ∷ ms) c = if is_marked 126 m then not (holds ms c) else holds (m ∷ ms) c

-- a class with one more member in front
abbrev pub class_with : ℕ × Bool → Option (Word × Word) → Option (Word × Word)
class_with m None = None
class_with m (Some p) = Some (m ∷ p.0, p.1)

-- the members of a class and what follows its `]`, if it has one
abbrev pub class_end : Word → Option (Word × Word)
class_end [] = None
class_end (m ∷ w) = if is_close m then Some ([], w) else class_with m (class_end w)

-- the rest of a word after a class that is closed and stands for c
abbrev pub class_after : Bool → Option (Word × Word) → ℕ → Option Word
class_after e None c = None
class_after e (Some p) c = if class_holds p.0 c then (if stands_for e c then Some p.1 else None) else None

-- the rest of a word, by the role of its first character and by what follows that
abbrev pub one_by : Bool → Role → ℕ → Word → ℕ → Option Word
one_by e Star x w c = None
one_by e Question x w c = if stands_for e c then Some w else None
one_by e Open x w c = class_after e (class_end w) c
one_by e Plain x w c = if x == c then Some w else None

-- the rest of a word after its first character or class, if that isn't a star and stands for c
abbrev pub after_one : Bool → Word → ℕ → Option Word
after_one e [] c = None
after_one e (m ∷ w) c = one_by e (role m) m.0 w c

-- the rest of a word after its first character, if that is a star
abbrev pub star_by : Role → Word → Option Word
star_by Star w = Some w
star_by _ w = None

-- the rest of a word after its leading star, if it has one
abbrev pub after_star : Word → Option Word
after_star [] = None
after_star (m ∷ w) = star_by (role m) w

-- the next move: past a star, past one character, the end of both, or a mismatch
pub data Move : Type 0 where
  PastStar : (word : Word) → Move
  PastOne : (c : ℕ) (word : Word) (text : List ℕ) → Move
  AtEnd : Move
  Miss : Move

-- one character is matched, or none can be
abbrev pub past_one : ℕ → List ℕ → Option Word → Move
past_one c t None = Miss
past_one c t (Some v) = PastOne c v t

-- the next move if there is no star in front
abbrev pub one_move : Bool → Word → List ℕ → Move
one_move e [] [] = AtEnd
one_move e (m ∷ w) [] = Miss
one_move e w (c ∷ t) = past_one c t (after_one e w c)

-- the next move: past a star in front, or else past one character
abbrev pub move_by : Bool → Option Word → Word → List ℕ → Move
move_by e None w t = one_move e w t
move_by e (Some v) w t = PastStar v

-- the next move for a word and a text
abbrev pub move : Bool → Word → List ℕ → Move
move e w t = move_by e (after_star w) w t

-- what a match does next, given its places in the word and in the text, whether there is a star to go back to, and the
-- places after that star in both
abbrev pub Matcher : Type 0
Matcher = Word → List ℕ → Bool → Word → List ℕ → Option Bool

-- after a mismatch the last star, if there is one, stands for one character more
abbrev pub goes_back : Matcher → Bool → Bool → Word → List ℕ → Option Bool
goes_back go e false bw bt = Some false
goes_back go e true bw [] = Some false
goes_back go e true bw (c ∷ bt) = if stands_for e c then go bw bt true bw bt else Some false

-- what a match does after this move
abbrev pub after_move : Matcher → Bool → Move → List ℕ → Bool → Word → List ℕ → Option Bool
after_move go e (PastStar v) t s bw bt = go v t true v t
after_move go e (PastOne c v u) t s bw bt = go v u (s && stands_for e c) bw bt
after_move go e AtEnd t s bw bt = Some true
after_move go e Miss t s bw bt = goes_back go e s bw bt

-- the match within n moves; None if they don't suffice
abbrev pub greedy_from : ℕ → Bool → Matcher
greedy_from zero e w t s bw bt = None
greedy_from (suc n) e w t s bw bt = after_move (greedy_from n e) e (move e w t) t s bw bt

-- the match in as many moves as the product of both lengths
abbrev pub greedy : Bool → Word → List ℕ → Option Bool
greedy e w t =
    if e && (has_pattern w && is_dots t) then Some false
    else greedy_from (suc (length w) * suc (length t)) e w t false w t
