-- How a redirection that opens a file ends.
use Rattle.std.specs.Prelude.{◌≡◌, ◌⊎◌, ℕ, List, Option, Some, Result, Ok, Err, string_bytes}
use Rattle.rc_model.specs.Run.Calls.{Call, Event, here, as_file, to_file, with_slot}
use Rattle.rc_model.specs.declared.call.Slots.{Slots}
use Rattle.rc_model.specs.Run.Plans.{done_with, RanBetween}
use Rattle.rc_model.specs.Run.State.{State}
use Rattle.rc_model.specs.Run.Shell.{Shell, Next, ◌>>=◌, call}
use Rattle.rc_model.specs.Run.Acts.{fails, opened, cannot_open, here_name, not_one_word}
use Rattle.rc_world.specs.Comes.{Left}
use Rattle.rc_redir.specs.Redirections.{Redirections, redirected}
use Rattle.rc_redir.specs.declared.RedirFault.{RedirFault}
use Rattle.rc_redir.specs.declared.RedirFault.TheVariants.{NotOneWord, CannotOpen}
use Rattle.rc_redir.specs.declared.RedirError.{RedirError}
use Rattle.rc_redir.specs.declared.RedirError.TheVariants.{Fault, Stopped}
use Rattle.rc_world.specs.declared.starts.Stop.TheVariants.{NoMemory}

-- a call that opens the file of this name
abbrev pub open_by : Call → Slots → (name : List ℕ) → Shell ℕ
open_by c slots name = do
  a ← call c
  opened slots name (as_file a)

-- the file of a here document whose text is this
abbrev pub open_text : Slots → (text : List ℕ) → Shell ℕ
open_text slots text = open_by (here text) slots here_name

-- the file that was opened is in place of a descriptor
abbrev pub with_file : Redirections → (slot file : ℕ) → Redirections
with_file r slot file = redirected r (Some file) (with_slot r.slots slot (to_file file))

-- the fault in words, as a shell reports it
abbrev pub redir_words : RedirFault → List ℕ
redir_words NotOneWord = not_one_word
redir_words (CannotOpen name) = cannot_open (string_bytes name)

-- in each state, an act that opens a file returned that file, which is now in place of the descriptor; or it came to a
-- runtime error, which was not reported yet; or it was stopped
abbrev pub Opens : (before after : Option (List Event)) → (old new : Redirections) → (slot : ℕ) → Shell ℕ →
    Result (Unit {0}) RedirError → Type 0
Opens before after old new slot act (Ok x) =
    (file : ℕ) × (new ≡ with_file old slot file) ×
    ((s : State) → RanBetween before after (act s) (done_with (Next file s)))
Opens before after old new slot act (Err (Fault fault)) =
    (s : State) → RanBetween before after (act s) (fails old.slots (redir_words fault) s)
Opens before after old new slot act (Err (Stopped stop)) = (s : State) → Left before after (act s) stop

-- if memory ran out, no file is held: no call was made, or the act came to a runtime error, so that its call was
-- refused
abbrev pub HoldsNothing : (before after : Option (List Event)) → Slots → Shell ℕ →
    Result (Unit {0}) RedirError → Type 0
HoldsNothing before after slots act (Err (Stopped NoMemory)) =
    (after ≡ before) ⊎ ((text : List ℕ) × ((s : State) → RanBetween before after (act s) (fails slots text s)))
HoldsNothing before after slots act _ = Unit {0}
