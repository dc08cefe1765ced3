-- The own descriptors of a shell that redirections around a command leave in use.
use Rattle.std.specs.Prelude.{◌≡◌, ◌⊎◌, ℕ, zero, suc, Bool, true, false, if◌then◌else◌, Option, Some, None}
use Rattle.rc_model.specs.Syntax.Tree.{Node, Many, cmd, redir, none, more, Assign, Redirect, Open, Copy, Here}
use Rattle.rc_model.specs.declared.call.Slot.{Slot}
use Rattle.rc_model.specs.declared.call.Slot.TheVariants.{Own, To}
use Rattle.rc_model.specs.declared.call.Slots.{Slots}
use Rattle.rc_model.specs.Run.Calls.{Call, Answer, open_file, here, write, start, as_file}
use Rattle.rc_model.specs.Run.Calls.{plain, to_file, slot_of, with_slot}
use Rattle.rc_model.specs.Run.Plans.{Plan, done_with, ask, cut}
use Rattle.rc_model.specs.Run.Script.{whole}
use Rattle.rc_model.specs.Run.State.{State}

-- ** what redirections cover

-- the number of files that these redirections open, plus this one
abbrev pub opens_in : Many redir → ℕ → ℕ
opens_in none k = k
opens_in (more (Open mode slot path) rest) k = suc (opens_in rest k)
opens_in (more (Copy to from) rest) k = opens_in rest k
opens_in (more (Here pieces) rest) k = suc (opens_in rest k)

-- the number of files that the redirections around a command open, perhaps inside assignments
abbrev pub opens_of : Node cmd → ℕ
opens_of (Assign pairs body) = opens_of body
opens_of (Redirect redirs body) = opens_in redirs (opens_of body)
opens_of c = 0

-- the descriptors after these redirections; each file counts as that of number 0
abbrev pub slots_in : Many redir → Slots → Slots
slots_in none slots = slots
slots_in (more (Open mode slot path) rest) slots = slots_in rest (with_slot slots slot (to_file 0))
slots_in (more (Copy to from) rest) slots = slots_in rest (with_slot slots to (slot_of slots from))
slots_in (more (Here pieces) rest) slots = slots_in rest (with_slot slots 0 (to_file 0))

-- the second if there are files to open, else the first
abbrev pub if_opens : ℕ → Slots → Slots → Slots
if_opens zero before after = before
if_opens (suc k) before after = after

-- the descriptors after the last file of the redirections around a command is opened: copies count as far as no call
-- can come before them
abbrev pub slots_after : Node cmd → Slots → Slots
slots_after (Assign pairs body) slots = if_opens (opens_of body) slots (slots_after body slots)
slots_after (Redirect redirs body) slots = slots_after body (slots_in redirs slots)
slots_after c slots = slots

-- ** the descriptors that calls name

-- a descriptor is an open file, or one of these of the shell's own
abbrev pub IsAmong : (ℕ → Type 0) → Slot → Type 0
IsAmong P (Own n) = P n
IsAmong P (To file) = Unit {0}

-- so are all three descriptors
pub record AreAmong (P : ℕ → Type 0) (slots : Slots) : Type 0 where
  pub input : IsAmong P slots.input
  pub output : IsAmong P slots.output
  pub errors : IsAmong P slots.errors

-- a call names no others of the shell's own
abbrev pub NamesOnly : (ℕ → Type 0) → Call → Type 0
NamesOnly P (write slot text) = IsAmong P slot
NamesOnly P (start launch) = AreAmong P launch.slots
NamesOnly P c = Unit {0}

-- the shell's own descriptor of this number is one of these three
abbrev pub Stands : Slots → ℕ → Type 0
Stands slots n = (slots.input ≡ Own n) ⊎ ((slots.output ≡ Own n) ⊎ (slots.errors ≡ Own n))

-- ** the calls after the redirections

-- this holds of each call of a plan, whatever the answers
abbrev pub AllCalls : {X : Type 0} → (Call → Type 0) → Plan X → Type 0
AllCalls Q (done_with x) = Unit {0}
AllCalls Q (ask c go) = Q c × ((a : Answer) → AllCalls Q (go a))
AllCalls Q cut = Unit {0}

-- there is a file
abbrev pub is_file : Option ℕ → Bool
is_file (Some h) = true
is_file None = false

-- a call opens a file, and its answer is one
abbrev pub is_opened : Call → Answer → Bool
is_opened (open_file path mode) a = is_file (as_file a)
is_opened (here text) a = is_file (as_file a)
is_opened c a = false

-- this holds of each call after this many files were opened, whatever the answers
abbrev pub AfterOpens : {X : Type 0} → ℕ → (Call → Type 0) → Plan X → Type 0
AfterOpens zero Q p = AllCalls Q p
AfterOpens (suc k) Q (done_with x) = Unit {0}
AfterOpens (suc k) Q (ask c go) = (a : Answer) → AfterOpens (if is_opened c a then k else suc k) Q (go a)
AfterOpens (suc k) Q cut = Unit {0}

-- after the files of the redirections around a command are opened, no call of its run names a descriptor of the shell's
-- own that they cover
abbrev pub NoCoveredIsNamed : Type 0
NoCoveredIsNamed =
    (n : ℕ) (c : Node cmd) (s : State) →
    AfterOpens (opens_of c) (NamesOnly (Stands (slots_after c plain))) (whole n c s)
