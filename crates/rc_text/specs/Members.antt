-- Separators, and the members between them.
use Rattle.std.specs.Prelude.{◌≡◌, ℕ, Bool, true, not, ◌==◌, List, ◌++◌, length, map, filter}
use Rattle.std.specs.Char.{encode_utf8}
use Rattle.std.specs.List.{list_any, slice_split}
use Rattle.std.specs.Str.{NoCharPasses, chars, encode_utf8_all}

-- whether a character is among the separators
abbrev pub among : (separators : List ℕ) (c : ℕ) → Bool
among separators c = list_any (λ d. d == c) separators

-- the text before the first separator, and what follows it
pub record IsCut (separators text front back : List ℕ) : Type 0 where
  pub none : NoCharPasses (among separators) front
  pub c : ℕ
  pub is : among separators c ≡ true
  pub split : text ≡ front ++ (encode_utf8 c ++ back)

-- the longest runs of characters that aren't separators
abbrev pub members_in : (separators text : List ℕ) → List (List ℕ)
members_in separators text =
    map encode_utf8_all (filter (λ run. not (length run == 0)) (slice_split (among separators) (chars text)))
