-- The redirections that a stack represents, and how one begins and ends.
use Rattle.std.specs.Prelude.{ℕ, List, [], ◌∷◌, Option, None, option_map}
use Rattle.rc_model.specs.declared.call.Slots.{Slots}
use Rattle.rc_redir.specs.declared.Redirection.{Redirection}

-- the current descriptors, and of each open redirection, the newest first, the file that it opened and the descriptors
-- before it
pub record Redirections : Type 0 where
  pub slots : Slots
  pub scopes : List (Option ℕ × Slots)

-- the file of a redirection and the descriptors before it
abbrev pub scope_of : Redirection → Option ℕ × Slots
scope_of r = (option_map (λ file. file.0) r.file, r.outer)

-- no redirection is open
abbrev pub unredirected : Slots → Redirections
unredirected slots = record { slots = slots; scopes = [] }

-- one more redirection, with its file and the descriptors that it makes
abbrev pub redirected : Redirections → Option ℕ → Slots → Redirections
redirected r file slots = record { slots = slots; scopes = (file, r.slots) ∷ r.scopes }

-- the file of the newest redirection
abbrev pub newest_file : List (Option ℕ × Slots) → Option ℕ
newest_file [] = None
newest_file (newest ∷ others) = newest.0

-- the redirections below the newest, with the descriptors before that
abbrev pub back_to : Slots → List (Option ℕ × Slots) → Redirections
back_to slots [] = unredirected slots
back_to slots (newest ∷ others) = record { slots = newest.1; scopes = others }

-- without the newest redirection, if there is one
abbrev pub without_newest : Redirections → Redirections
without_newest r = back_to r.slots r.scopes
