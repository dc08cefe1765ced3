-- The words in which a spelling is handed over: one or, if it is too long, a number and pieces.
use Rattle.std.specs.Prelude.{◌≢◌, ℕ, zero, suc, ◌≤◌, ◌<◌, nat_le, nat_lt, List, [], ◌∷◌, ◌++◌, length, take, drop}
use Rattle.std.specs.Prelude.{◌≡◌, Bool, true, ◌&&◌, ◌||◌, if◌then◌else◌, codes, Option, Some, None, option_map}
use Rattle.std.specs.Str.{IsCharBoundary}
use Rattle.std.specs.Fmt.{decimal}
use Rattle.rc_model.specs.declared.limits.TheConstants.{LONGEST_ARGUMENT, MOST_PIECES}

-- the greatest length of a word of a launch, in bytes
abbrev pub longest_word : ℕ
longest_word = LONGEST_ARGUMENT

-- the greatest number of pieces of an image
abbrev pub most_pieces : ℕ
most_pieces = MOST_PIECES

-- ** the rule

-- the longest piece at the start of a text
pub record IsLongest (limit : ℕ) (text piece : List ℕ) : Type 0 where
  pub short : length piece ≤ limit
  pub between : IsCharBoundary text (length piece)
  pub longest : (n : ℕ) → length piece < n → n ≤ limit → IsCharBoundary text n → ⊥

-- the pieces of a text, each the longest of what is left
pub data ArePieces (limit : ℕ) : List ℕ → List (List ℕ) → Type 0 where
  no_more : ArePieces limit [] []
  next : (text piece rest : List ℕ) (pieces : List (List ℕ)) → text ≢ [] → text ≡ piece ++ rest →
      IsLongest limit text piece →
      ArePieces limit rest pieces → ArePieces limit text (piece ∷ pieces)

-- a spelling in one word
abbrev pub one_word : List ℕ → List (List ℕ)
one_word text = (codes "rc1;" ++ text) ∷ []

-- the pieces of a spelling, after a word with their number
abbrev pub several_words : List (List ℕ) → List (List ℕ)
several_words pieces = (codes "rc2;" ++ decimal (length pieces)) ∷ pieces

-- the words of a spelling: one if it is short enough, else its pieces, if they are not too many
pub data AreWords (limit : ℕ) (text : List ℕ) : List (List ℕ) → Type 0 where
  in_one : length (codes "rc1;" ++ text) ≤ limit → AreWords limit text (one_word text)
  in_pieces : (pieces : List (List ℕ)) → limit < length (codes "rc1;" ++ text) → ArePieces limit text pieces →
      length pieces ≤ most_pieces →
      AreWords limit text (several_words pieces)

-- ** the same as a function

-- a character begins here, or the text ends
abbrev pub begins_whole : List ℕ → Bool
begins_whole [] = true
begins_whole (b ∷ bs) = nat_lt b 128 || nat_le 192 b

-- a text can be cut at this place
abbrev pub can_cut : ℕ → List ℕ → Bool
can_cut n text = nat_le n (length text) && begins_whole (drop n text)

-- the last place up to this one at which it can be cut
unfoldable pub last_cut : ℕ → List ℕ → ℕ
last_cut zero text = 0
last_cut (suc n) text = if can_cut (suc n) text then suc n else last_cut n text

-- the pieces of a text, if no more than a given number are needed
unfoldable pub pieces : (most limit : ℕ) → List ℕ → Option (List (List ℕ))
pieces most limit [] = Some []
pieces zero limit (b ∷ bs) = None
pieces (suc most) limit (b ∷ bs) =
    option_map (λ rest. take (last_cut limit (b ∷ bs)) (b ∷ bs)
    ∷ rest) (pieces most limit (drop (last_cut limit (b ∷ bs)) (b ∷ bs)))

-- the words of a spelling, unless it takes too many pieces
abbrev pub words_of : (limit : ℕ) → List ℕ → Option (List (List ℕ))
words_of limit text =
    if nat_le (length (codes "rc1;" ++ text)) limit then Some (one_word text)
    else option_map several_words (pieces most_pieces limit text)
