-- The members of a text, as a relation.
use Rattle.std.specs.Prelude.{◌≡◌, ◌≢◌, ℕ, Bool, true, false, ◌==◌, List, [], ◌∷◌, ◌++◌, map}
use Rattle.std.specs.List.{list_all, list_any}
use Rattle.std.specs.Str.{chars, encode_utf8_all}

-- these characters begin with a separator, or there are none
abbrev pub is_cut : (ℕ → Bool) → List ℕ → Bool
is_cut is_separator [] = true
is_cut is_separator (c ∷ cs) = is_separator c

-- The characters are the members, which are non-empty runs without separators, with separators between and around them.
pub data Splits (is_separator : ℕ → Bool) : List ℕ → List (List ℕ) → Type 0 where
  -- separators alone
  gap : (cs : List ℕ) → list_all is_separator cs ≡ true → Splits is_separator cs []
  -- separators, a member, and what follows it
  next : (cs before member rest : List ℕ) (members : List (List ℕ)) → list_all is_separator before ≡ true →
      member ≢ [] → list_any is_separator member ≡ false → is_cut is_separator rest ≡ true →
      cs ≡ before ++ (member ++ rest) → Splits is_separator rest members → Splits is_separator cs (member ∷ members)

-- the separators are the characters of a text
abbrev pub is_among : List ℕ → ℕ → Bool
is_among separators c = list_any (λ d. d == c) (chars separators)

-- the texts are the members of the text
pub record AreMembers (text separators : List ℕ) (texts : List (List ℕ)) : Type 0 where
  pub members : List (List ℕ)
  pub cut : Splits (is_among separators) (chars text) members
  pub spelled : texts ≡ map encode_utf8_all members
