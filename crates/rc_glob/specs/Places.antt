-- The places of a text at which the part of a word after a star can begin.
use Rattle.std.specs.Prelude.{ℕ, suc, Bool, true, false, ◌&&◌, ◌==◌, if◌then◌else◌, List, [], ◌∷◌, Option, Some, None}
use Rattle.rc_model.specs.Syntax.Words.{Word, is_pattern}
use Rattle.rc_model.specs.Run.Patterns.{Pattern, AnyRun, stands_for}

-- the text begins with these characters
abbrev pub begins_with : List ℕ → List ℕ → Bool
begins_with [] text = true
begins_with (c ∷ cs) [] = false
begins_with (c ∷ cs) (d ∷ ds) = (c == d) && begins_with cs ds

-- the text from the first place that passes the test, if a star may stand for what is before it
abbrev pub first_place : (explicit : Bool) → (test : List ℕ → Bool) → List ℕ → Option (List ℕ)
first_place explicit test [] = if test [] then Some [] else None
first_place explicit test (c ∷ cs) =
    if test (c ∷ cs) then Some (c ∷ cs) else (if stands_for explicit c then first_place explicit test cs else None)

-- the same from the second character, if the star may stand for the first one too
abbrev pub later_place : (explicit : Bool) → (test : List ℕ → Bool) → List ℕ → Option (List ℕ)
later_place explicit test [] = None
later_place explicit test (c ∷ cs) = if stands_for explicit c then first_place explicit test cs else None

-- the characters in front of the first pattern character
abbrev pub plain_front : Word → List ℕ
plain_front [] = []
plain_front (m ∷ w) = if is_pattern m then [] else m.0 ∷ plain_front w

-- one more than a number, if there is one
abbrev pub one_more : Option ℕ → Option ℕ
one_more None = None
one_more (Some n) = Some (suc n)

-- how many characters the parts stand for, if there is no star among them
abbrev pub width : List Pattern → Option ℕ
width [] = Some 0
width (AnyRun ∷ ps) = None
width (p ∷ ps) = one_more (width ps)
