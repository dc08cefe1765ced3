-- Where the part of a word after a star can begin.
use Rattle.std.specs.Prelude.{◌≡◌, ◌==◌, ℕ, Bool, true, List, length}
use Rattle.rc_model.specs.Syntax.Words.{Word}
use Rattle.rc_model.specs.Run.Patterns.{Outside, parts_from, parts_match}
use Rattle.rc_glob.specs.Characters.{characters}
use Rattle.rc_glob.specs.Places.{begins_with}
use Rattle.rc_glob.specs.declared.stars.Start.{Start}
use Rattle.rc_glob.specs.declared.stars.Start.TheVariants.{BeforeEnd, AtFront}

-- whether it can begin at this rest of the text
abbrev pub can_begin : Start → List ℕ → Bool
can_begin (BeforeEnd count) rest = length rest == count
can_begin (AtFront front) rest = begins_with (characters front.now) rest

-- the word matches no rest at which it can't begin
abbrev pub IsStartOf : Start → Word → Type 0
IsStartOf start word = (explicit : Bool) (rest : List ℕ) → parts_match explicit (parts_from Outside word) rest ≡ true
    → can_begin start rest ≡ true
