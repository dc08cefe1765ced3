-- What a reader keeps of a text, and what passed.
use Rattle.std.proofs.Common.{◌≡◌, ℕ, ◌+◌, ◌<◌, ◌⊎◌, inl, inr, List, [], ◌∷◌, ◌++◌, length, map, ap, ◌∙◌, length-append, arith}
use Rattle.std.proofs.lemmas.List.{append-nil, length-map}
use Rattle.rc_model.specs.Syntax.Accepted.{longest_script}
use Rattle.rc_parser.specs.Kept.{IsKept}

-- where some passed, the text is too long
pub is_longer : {X : Type 0} (value : X → ℕ) (kept : List ℕ) (room : ℕ) (passed : List X) → IsKept (length kept) room (length passed) → (length passed ≡ 0 → ⊥) →
    longest_script < length (kept ++ map value passed)
is_longer value kept room passed h some = by h.all_or_more
  where
    by : (length passed ≡ 0) ⊎ (room < length passed) → longest_script < length (kept ++ map value passed)
    by (inl e) = absurd (some e)
    by (inr l) = let n = length-append kept (map value passed) ∙ ap (λ k. length kept + k) (length-map passed value) in omega (arith, n, h.room_is, l)

-- where none passed, all of the text is kept
pub all_kept : {X : Type 0} (value : X → ℕ) (kept : List ℕ) (passed : List X) → length passed ≡ 0 → kept ++ map value passed ≡ kept
all_kept value kept [] e = append-nil kept
all_kept value kept (x ∷ xs) e = absurd (omega (arith, e))

-- what passed of a piece so far
pub record HasPassed {X : Type 0} (value : X → ℕ) (old new : List X) (piece : List ℕ) : Type 0 where
  pub more : List X
  pub all : new ≡ old ++ more
  pub values : map value more ≡ piece
