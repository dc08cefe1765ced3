-- Reading an image from its words, up to the first fault.
use Rattle.std.specs.Prelude.{ℕ, suc, nat_le, List, [], ◌∷◌, length, take, drop, Bool, false, if◌then◌else◌, codes}
use Rattle.std.specs.Prelude.{Option, Some, None}
use Rattle.std.specs.Prelude.{Result, Ok, Err}
use Rattle.std.specs.List.{concat}
use Rattle.std.specs.Str.{bytes_eq}
use Rattle.std.specs.Cmp.Lexicographic.{pointwise}
use Rattle.rc_model.specs.Syntax.Text.{begins_with}
use Rattle.rc_model.specs.Syntax.Tree.{Node, cmd}
use Rattle.rc_model.specs.Run.Numbers.{digits_value}
use Rattle.rc_model.specs.Handed.Pieces.{longest_word, words_of}
use Rattle.rc_model.specs.Handed.TreeReading.{ImageFault, BadTag, BadLength, ◌>>=◌, read_spelling, read_tree}
use Rattle.rc_model.specs.Handed.TreeReading.{beginning_fault}

-- a tree with the number of words that were taken
abbrev pub Taken : Type 0
Taken = Result (Node cmd × ℕ) ImageFault

-- a tree with the number of words that it was read from
abbrev pub counted : ℕ → Result (Node cmd) ImageFault → Taken
counted n tree = tree >>= λ c. Ok (c, n)

-- the tree in one word, which is not too long
abbrev pub from_one : (limit : ℕ) → List ℕ → Taken
from_one limit word = if nat_le (length word) limit then counted 1 (read_tree word) else Err BadLength

-- the same words
abbrev pub are_these : Option (List (List ℕ)) → List (List ℕ) → Bool
are_these None words = false
are_these (Some written) words = pointwise bytes_eq written words

-- the tree in pieces: its words must be those in which the joined pieces would be written
abbrev pub from_pieces : (limit : ℕ) → List ℕ → List (List ℕ) → Taken
from_pieces limit first pieces =
    if are_these (words_of limit (concat pieces)) (first ∷ pieces)
    then counted (suc (length pieces)) (read_spelling (concat pieces))
    else Err BadLength

-- the first word says in how many pieces the tree follows
abbrev pub read_words : (limit : ℕ) → List (List ℕ) → Taken
read_words limit [] = Err BadTag
read_words limit (first ∷ rest) =
    if begins_with (codes "rc1;") first then from_one limit first
    else if begins_with (codes "rc2;") first then from_pieces limit first (take (digits_value 0 (drop 4 first)) rest)
    else Err (beginning_fault first)

-- the tree in words that are no longer than a launch allows
abbrev pub read_pieces : List (List ℕ) → Taken
read_pieces words = read_words longest_word words
