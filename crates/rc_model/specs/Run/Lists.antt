-- Lists of words and of texts: joining, selecting, splitting.
use Rattle.std.specs.Prelude.{ℕ, zero, suc, ◌==◌, not, List, [], ◌∷◌, ◌++◌, map, length, take, drop, Option, Some, None}
use Rattle.std.specs.Prelude.{Result, Ok, Err, if◌then◌else◌, filter, codes}
use Rattle.std.specs.List.{list_any, flat_map, before_first, after_first, slice_split}
use Rattle.std.specs.Str.{chars, encode_utf8_all}
use Rattle.rc_model.specs.Syntax.Words.{Word}
use Rattle.rc_model.specs.Run.Numbers.{number_of}
pub use Rattle.rc_model.specs.declared.fault.ListFault.{ListFault}
pub use Rattle.rc_model.specs.declared.fault.ListFault.TheVariants.{EmptyConcat, CountMismatch}

-- a fault of lists, in words
abbrev pub list_words : ListFault → List ℕ
list_words EmptyConcat = codes "empty list in concatenation"
list_words CountMismatch = codes "list lengths differ in concatenation"

-- each word with the one at the same index
abbrev pub pairwise : List Word → List Word → List Word
pairwise [] bs = []
pairwise (a ∷ as') [] = []
pairwise (a ∷ as') (b ∷ bs) = (a ++ b) ∷ pairwise as' bs

-- one word before or after each of several
abbrev pub distributed : List Word → List Word → Result (List Word) ListFault
distributed [] bs = Err EmptyConcat
distributed (a ∷ as') [] = Err EmptyConcat
distributed (a ∷ []) (b ∷ bs) = Ok (map (λ w. a ++ w) (b ∷ bs))
distributed (a ∷ a' ∷ as') (b ∷ []) = Ok (map (λ w. w ++ b) (a ∷ a' ∷ as'))
distributed (a ∷ a' ∷ as') (b ∷ b' ∷ bs) = Err CountMismatch

-- lists of equal length are joined pairwise; otherwise a list of one member is joined to each member of the other
abbrev pub concatenated : List Word → List Word → Result (List Word) ListFault
concatenated xs ys = if length xs == length ys then Ok (pairwise xs ys) else distributed xs ys

-- the member at this place, counted from 1
abbrev pub member : List (List ℕ) → Option ℕ → List (List ℕ)
member value None = []
member value (Some zero) = []
member value (Some (suc i)) = take 1 (drop i value)

-- the members up to a place
abbrev pub up_to : List (List ℕ) → Option ℕ → List (List ℕ)
up_to value None = []
up_to value (Some n) = take n value

-- the members from a place on
abbrev pub from_place : List (List ℕ) → Option ℕ → List (List ℕ)
from_place value None = []
from_place value (Some zero) = []
from_place value (Some (suc i)) = drop i value

-- `m-` and `m-n`, by what follows the dash
abbrev pub front : List (List ℕ) → List ℕ → List (List ℕ)
front value [] = value
front value (d ∷ ds) = up_to value (number_of (d ∷ ds))

-- what a subscript selects
abbrev pub selected_by : List (List ℕ) → List ℕ → List (List ℕ)
selected_by value text =
    if list_any (λ c. c == 45) text
    then from_place (front value (after_first (λ c. c == 45) text)) (number_of (before_first (λ c. c == 45) text))
    else member value (number_of text)

-- what subscripts select, in their order
abbrev pub selected : List (List ℕ) → List (List ℕ) → List (List ℕ)
selected value subscripts = flat_map (selected_by value) subscripts

-- the longest runs of characters that aren't separators
abbrev pub split : List ℕ → List ℕ → List (List ℕ)
split text separators =
    map encode_utf8_all (filter (λ run.
    not (length run == 0)) (slice_split (λ c. list_any (λ d. d == c) (chars separators)) (chars text)))
