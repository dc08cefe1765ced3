-- How a part is written: at the end of the code, with each jump back-patched when its target is known.
use Rattle.std.specs.Prelude.{◌≡◌, ℕ, List, [], ◌∷◌, ◌++◌, length, slice_set}
use Rattle.rc_model.specs.Code.Layout.{Op, Jump, Kept, Code, Part, ops_of, kept_of}
use Rattle.rc_code.specs.Listings.{listing_of}
use Rattle.rc_code.specs.declared.listing.Listing as program

-- the code with a part at its end
unfoldable pub with_part : Code → Part → Code
with_part c part = record { ops = c.ops ++ ops_of part (length c.ops) (length c.kept); kept = c.kept ++ kept_of part }

-- the code with one more thing kept beside it
unfoldable pub with_kept : Code → Kept → Code
with_kept c x = record c { kept = c.kept ++ x ∷ [] }

-- the code with another instruction at a place
unfoldable pub patched : Code → (p : ℕ) → Op → Code
patched c p op = record c { ops = slice_set c.ops p op }

-- the code with jumps to the same place at several places
unfoldable pub jumps_patched : Code → List ℕ → (p : ℕ) → Code
jumps_patched c [] p = c
jumps_patched c (from ∷ places) p = jumps_patched (patched c from (Jump p)) places p

-- a part was written
abbrev pub Writes : (old new : program.Listing) → Part → Type 0
Writes old new part = listing_of new ≡ with_part (listing_of old) part
