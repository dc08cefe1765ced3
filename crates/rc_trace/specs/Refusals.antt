-- What becomes of the calls of a world that refuses one of them.
use Rattle.std.specs.Prelude.{◌≡◌, ℕ, suc, ◌+◌, ◌-◌, ◌<◌, ◌^◌, ◌==◌, ◌∷◌, ◌++◌, List, length, take, drop}
use Rattle.std.specs.Prelude.{option_map, Bool, true, false}
use Rattle.rc_model.specs.Run.Calls.{Call, Answer, Event, event, close, refused, was_made}
use Rattle.rc_model.specs.declared.call.Fault.{Fault}
use Rattle.rc_model.specs.declared.call.Fault.TheVariants.{Denied, NoMemory}
use Rattle.rc_world.specs.Comes.{Recording, Records}
use Rattle.rc_world.specs.Views.{call_of}
use Rattle.rc_trace.specs.declared.refusal.Refusal.{Refusal}
use Rattle.rc_trace.specs.declared.refusal.Refusal.TheVariants.{Never, After, Done, Closed}
use Rattle.rc_trace.specs.declared.refusal_world.RefusalWorld.{RefusalWorld}

-- the next call is refused
abbrev pub is_due : Refusal → Bool
is_due (After others) = others == 0
is_due _ = false

-- one call more can be counted
abbrev pub CanCount : Refusal → Type 0
CanCount (Done call since) = since < 2 ^ 64 - 1
CanCount (Closed h since) = since < 2 ^ 64 - 1
CanCount _ = Unit {0}

-- these events, with one that was refused before this many of the last ones
abbrev pub with_refused : Call → (since : ℕ) → List Event → List Event
with_refused call since events =
    take (length events - since) events ++ event call (refused Denied) ∷ drop (length events - since) events

-- these events, but the close of a file before this many of the last ones is answered by a refusal
abbrev pub with_refused_close : (file : ℕ) → (since : ℕ) → List Event → List Event
with_refused_close file since events =
    take (length events - suc since) events ++ event (close file) (refused Denied) ∷ drop (length events - since) events

-- the events of a world that refuses a call, by those of the world that it passes calls on to
abbrev pub events_by : Refusal → List Event → List Event
events_by (Done call since) events = with_refused (call_of call) since events
events_by (Closed h since) events = with_refused_close h.0 since events
events_by _ events = events

-- this call was refused, and none was made since
abbrev pub IsDone : Refusal → Call → Type 0
IsDone (Done call since) called = (call_of call ≡ called) × (since ≡ 0)
IsDone _ called = ⊥

-- a call was refused, or memory was refused for it and nothing was done
abbrev pub Refuses : (old new : Refusal) → Call → Fault → Type 0
Refuses old new called Denied = IsDone new called
Refuses old new called NoMemory = new ≡ old
Refuses old new called _ = ⊥

-- one call more was passed on
abbrev pub counted : Refusal → Refusal
counted Never = Never
counted (After others) = After (others - 1)
counted (Done call since) = Done call (since + 1)
counted (Closed h since) = Closed h (since + 1)

-- a call was counted if it was made
abbrev pub Counts : (old new : Refusal) → (made : Bool) → Type 0
Counts old new true = new ≡ counted old
Counts old new false = new ≡ old

-- the world that calls are passed on to
abbrev pub refused_in : {W : Type 0} → RefusalWorld W → W
refused_in world = world.world

-- which call is refused
abbrev pub refusal_of : {W : Type 0} → RefusalWorld W → Refusal
refusal_of world = world.refusal

-- what a world records that refuses a call
abbrev pub events_with : {W : Type 0} → Recording W → Recording (RefusalWorld W)
events_with events world = option_map (events_by (refusal_of world)) (events (refused_in world))

-- a call is passed on and counted
pub record PassesOn {W : Type 0} (events : Recording W) (old new : RefusalWorld W) (call : Call) (answer : Answer) :
    Type 0 where
  pub passed : Records events (refused_in old) (refused_in new) call answer
  pub counts : Counts (refusal_of old) (refusal_of new) (was_made answer)

-- a call is refused, and not passed on
pub record RefusesIt {W : Type 0} (old new : RefusalWorld W) (call : Call) (answer : Answer) : Type 0 where
  pub same : refused_in new ≡ refused_in old
  pub why : (fault : Fault) × (answer ≡ refused fault) × Refuses (refusal_of old) (refusal_of new) call fault

-- the close of this file was refused, and no call was made since
abbrev IsClosed : Refusal → (file : ℕ) → Type 0
IsClosed (Closed h since) file = (h.0 ≡ file) × (since ≡ 0)
IsClosed _ file = ⊥

-- by whether the close was made in the world that it was passed on to
abbrev ClosesIf : (made : Bool) → (old new : Refusal) → (file : ℕ) → Answer → Type 0
ClosesIf true old new file answer = (answer ≡ refused Denied) × IsClosed new file
ClosesIf false old new file answer = (answer ≡ refused NoMemory) × (new ≡ old)

-- a close is refused: it is passed on, and its answer is dropped
abbrev pub Closes : {W : Type 0} → Recording W → (old new : RefusalWorld W) → (file : ℕ) → Answer → Type 0
Closes events old new file answer =
    (said : Answer) × Records events (refused_in old) (refused_in new) (close file) said
    × ClosesIf (was_made said) (refusal_of old) (refusal_of new) file answer

-- by whether the refusal is due
abbrev MeetsBy : {W : Type 0} → (due : Bool) → Recording W → (old new : RefusalWorld W) → (refusing : Type 0) →
    Call → Answer → Type 0
MeetsBy true events old new refusing call answer = refusing
MeetsBy false events old new refusing call answer = PassesOn events old new call answer

-- a call that can't be counted is not made
abbrev MeetsUncounted : {W : Type 0} → (old new : RefusalWorld W) → Answer → Type 0
MeetsUncounted old new answer = (new ≡ old) × (answer ≡ refused NoMemory)

-- the call that is due is refused in some way, and any other is passed on; each is recorded
pub record MeetsIn {W : Type 0} (events : Recording W) (old new : RefusalWorld W) (refusing : Type 0) (call : Call)
    (answer : Answer) : Type 0 where
  pub does : CanCount (refusal_of old) → MeetsBy (is_due (refusal_of old)) events old new refusing call answer
  pub uncounted : ¬ CanCount (refusal_of old) → MeetsUncounted old new answer
  pub recorded : Records (events_with events) old new call answer

-- what becomes of a call that is no close: if it is refused, it is not passed on
abbrev pub Meets : {W : Type 0} → Recording W → (old new : RefusalWorld W) → Call → Answer → Type 0
Meets events old new call answer = MeetsIn events old new (RefusesIt old new call answer) call answer

-- what becomes of the close of a file: if it is refused, it is passed on all the same
abbrev pub MeetsClose : {W : Type 0} → Recording W → (old new : RefusalWorld W) → (file : ℕ) → Answer → Type 0
MeetsClose events old new file answer =
    MeetsIn events old new (Closes events old new file answer) (close file) answer
