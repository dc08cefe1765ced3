-- The descriptors of its own that a process gives up.
use Rattle.std.specs.Prelude.{ℕ, ◌==◌, ◌-◌, ◌||◌, if◌then◌else◌, Bool, false}
use Rattle.rc_model.specs.declared.call.Slot.{Slot}
use Rattle.rc_model.specs.declared.call.Slot.TheVariants.{Own, To}
use Rattle.rc_model.specs.declared.call.Slots.{Slots}
use Rattle.rc_host.specs.declared.leaving.Leaving.{Leaving}

-- the process's own descriptor of this number
abbrev pub is_own : ℕ → Slot → Bool
is_own n (Own m) = m == n
is_own n (To file) = false

-- one of these slots is the process's own descriptor of this number
abbrev pub stands : ℕ → Slots → Bool
stands n slots = is_own n slots.input || (is_own n slots.output || is_own n slots.errors)

-- the descriptor of this number is among those that are given up
abbrev pub gives_up : Leaving → ℕ → Bool
gives_up leaving n =
    if n == 0 then leaving.input else if n == 1 then leaving.output else if n == 2 then leaving.errors else false

-- nothing is given up
abbrev pub nothing : Leaving
nothing = record { files = 0; input = false; output = false; errors = false }

-- what is given up when one more file has been opened: all of it with the last file, before and after that nothing
abbrev pub due_after : Leaving → Leaving
due_after leaving = if leaving.files == 1 then leaving else nothing

-- what is to be given up when one more file has been opened
abbrev pub counted : Leaving → Leaving
counted leaving = record leaving { files = leaving.files - 1 }
