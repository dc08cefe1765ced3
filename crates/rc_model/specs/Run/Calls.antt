-- The calls that a shell makes on its world, and the world's answers.
use Rattle.std.specs.Prelude.{ℕ, zero, suc, nat_le, List, [], ◌∷◌, ◌++◌, length, map, Option, Some, None, option_map}
use Rattle.std.specs.Prelude.{Bool, true, false, if◌then◌else◌}
pub use Rattle.rc_model.specs.declared.call.Mode.{Mode}
pub use Rattle.rc_model.specs.declared.call.Mode.TheVariants.{Read, Write, Append}
pub use Rattle.rc_model.specs.declared.call.Handle.{Handle}
pub use Rattle.rc_model.specs.declared.call.Slot.{Slot}
pub use Rattle.rc_model.specs.declared.call.Slot.TheVariants.{Own, To}
pub use Rattle.rc_model.specs.declared.call.Slots.{Slots}
pub use Rattle.rc_model.specs.declared.call.Kind.{Kind}
pub use Rattle.rc_model.specs.declared.call.Kind.TheVariants.{Directory, Program, Other as OtherKind}
pub use Rattle.rc_model.specs.declared.call.Ending.{Ending}
pub use Rattle.rc_model.specs.declared.call.Ending.TheVariants.{Code, Signal}
pub use Rattle.rc_model.specs.declared.call.Fault.{Fault}
pub use Rattle.rc_model.specs.declared.call.Fault.TheVariants.{NotFound, Denied, Exists, Broken, Full, Other, Halt}
pub use Rattle.rc_model.specs.declared.call.Fault.TheVariants.{NoMemory}
use Rattle.rc_model.specs.declared.limits.TheConstants.{LONGEST_READ}
use Rattle.rc_model.specs.declared.call.TheConstants.{PLAIN_SLOTS}

-- an open file in place of a descriptor
abbrev pub to_file : ℕ → Slot
to_file h = To (record { 0 = h })

-- each descriptor is the shell's own
abbrev pub plain : Slots
plain = PLAIN_SLOTS

-- the slot of a descriptor
abbrev pub slot_of : Slots → ℕ → Slot
slot_of slots zero = slots.input
slot_of slots (suc zero) = slots.output
slot_of slots (suc (suc n)) = slots.errors

-- the slots with another one for this descriptor
abbrev pub with_slot : Slots → ℕ → Slot → Slots
with_slot slots zero s = record slots { input = s }
with_slot slots (suc zero) s = record slots { output = s }
with_slot slots (suc (suc n)) s = record slots { errors = s }

-- what is started: a program by its path, or this shell (None), with its arguments, its environment and its descriptors
pub record Launch : Type 0 where
  pub program : Option (List ℕ)
  pub args : List (List ℕ)
  pub entries : List (List ℕ)
  pub slots : Slots

-- the eleven calls that a shell makes on its world
pub data Call : Type 0 where
  open_file : (path : List ℕ) → Mode → Call
  here : (text : List ℕ) → Call
  make_pipe : Call
  close : (file : ℕ) → Call
  read : (file : ℕ) → Call
  write : Slot → (text : List ℕ) → Call
  start : Launch → Call
  wait : (child : ℕ) → Call
  list_names : (path : List ℕ) → Call
  probe : (path : List ℕ) → Call
  change_dir : (path : List ℕ) → Call

-- the answers of the world
pub data Answer : Type 0 where
  file : ℕ → Answer
  pair : (read_end write_end : ℕ) → Answer
  done : Answer
  bytes : List ℕ → Answer
  child : ℕ → Answer
  ended : Ending → Answer
  names : List (List ℕ) → Answer
  found : Kind → Answer
  refused : Fault → Answer

-- an event is a call with its answer, and a trace is a list of events
pub record Event : Type 0 where
  pub call : Call
  pub answer : Answer

-- a call with its answer
abbrev pub event : Call → Answer → Event
event call answer = record { call = call; answer = answer }

-- an answer as the kind that its call wants, or nothing if it is of another kind: a file
abbrev pub as_file : Answer → Option ℕ
as_file (file h) = Some h
as_file _ = None

-- the two ends of a pipe
abbrev pub as_pair : Answer → Option (ℕ × ℕ)
as_pair (pair r w) = Some (r, w)
as_pair _ = None

-- whether the call was carried out
abbrev pub as_done : Answer → Bool
as_done done = true
as_done _ = false

-- the bytes that were read
abbrev pub as_bytes : Answer → Option (List ℕ)
as_bytes (bytes b) = Some b
as_bytes _ = None

-- the number of a child
abbrev pub as_child : Answer → Option ℕ
as_child (child n) = Some n
as_child _ = None

-- how a child ended
abbrev pub as_ending : Answer → Option Ending
as_ending (ended e) = Some e
as_ending _ = None

-- the names in a directory
abbrev pub as_names : Answer → Option (List (List ℕ))
as_names (names ns) = Some ns
as_names _ = None

-- the kind of what is at a path
abbrev pub as_kind : Answer → Option Kind
as_kind (found k) = Some k
as_kind _ = None

-- the kind of answer that a call wants
pub data Want : Type 0 where
  WantsFile : Want
  WantsPair : Want
  WantsDone : Want
  WantsBytes : Want
  WantsChild : Want
  WantsEnding : Want
  WantsNames : Want
  WantsKind : Want

-- what each call wants
abbrev pub want : Call → Want
want (open_file path mode) = WantsFile
want (here text) = WantsFile
want make_pipe = WantsPair
want (close h) = WantsDone
want (read h) = WantsBytes
want (write slot text) = WantsDone
want (start l) = WantsChild
want (wait n) = WantsEnding
want (list_names path) = WantsNames
want (probe path) = WantsKind
want (change_dir path) = WantsDone

-- an answer as a call takes it: one of another kind, a read of over 4096 bytes and out of memory count as a refusal of
-- the kind `Other`
abbrev pub taken_as : Want → Answer → Answer
taken_as WantsFile (file h) = file h
taken_as WantsPair (pair r w) = pair r w
taken_as WantsDone done = done
taken_as WantsBytes (bytes b) = if nat_le (length b) LONGEST_READ then bytes b else refused Other
taken_as WantsChild (child n) = child n
taken_as WantsEnding (ended e) = ended e
taken_as WantsNames (names ns) = names ns
taken_as WantsKind (found k) = found k
taken_as _ (refused NoMemory) = refused Other
taken_as _ (refused f) = refused f
taken_as _ _ = refused Other

-- an answer that does not fit its call counts as a refusal
abbrev pub fitting : Call → Answer → Answer
fitting call answer = taken_as (want call) answer

-- a call answered by Halt is unanswered
abbrev pub is_halt : Answer → Bool
is_halt (refused Halt) = true
is_halt _ = false

-- the calls of a trace
abbrev pub calls : List Event → List Call
calls trace = map (λ e. e.call) trace

-- the answers of a trace, up to a halt
abbrev pub answers : List Event → List Answer
answers [] = []
answers (e ∷ es) = if is_halt e.answer then [] else e.answer ∷ answers es

-- out of memory means that the call was not made
abbrev pub was_made : Answer → Bool
was_made (refused NoMemory) = false
was_made _ = true

-- what a world records of one call
abbrev pub recorded_by : Call → Answer → List Event
recorded_by call answer = if was_made answer then event call answer ∷ [] else []

-- the record of a world with these events added; a world that records nothing has none
abbrev pub extend : Option (List Event) → List Event → Option (List Event)
extend recorded more = option_map (λ before. before ++ more) recorded
