-- What each call of an act is: it names none of the shell's own descriptors but these, and opens a file only where it may.
use Rattle.std.proofs.Common.{◌≡◌, ℕ, zero, suc, List, Bool, true, false, Option, Some, None}
use Rattle.std.specs.Prelude.{if◌then◌else◌}
use Rattle.rc_model.specs.declared.call.Slot.{Slot}
use Rattle.rc_model.specs.declared.call.Slots.{Slots}
use Rattle.rc_model.specs.Run.Calls.{Call, open_file, here, write, start, to_file, slot_of, with_slot}
use Rattle.rc_model.specs.Run.Plans.{Plan, done_with, ask, cut}
use Rattle.rc_model.specs.Run.State.{State, with_status}
use Rattle.rc_model.specs.Run.Shell.{ShellResult, Next, Exit, Shell, under, leaves, pure, skip, call, say, get, change, exits, stops}
use Rattle.rc_model.specs.Run.Acts.{set_status, from_pipe}
use Rattle.rc_model.specs.Run.Meaning.{Runner}
use Rattle.law_descriptors.specs.Covering.{IsAmong, AreAmong, AllCalls}

-- a call opens a file only where it may, and names only these of the shell's own descriptors
abbrev pub Meets : (ℕ → Type 0) → Bool → Call → Type 0
Meets P o (open_file path mode) = o ≡ true
Meets P o (here text) = o ≡ true
Meets P o (write slot text) = IsAmong P slot
Meets P o (start launch) = AreAmong P launch.slots
Meets P o c = Unit {0}

abbrev pub Safe : {X : Type 0} → (ℕ → Type 0) → Bool → Plan X → Type 0
Safe P o p = AllCalls (Meets P o) p

pub all_under : {A X : Type 0} (Q : Call → Type 0) (p : Plan (ShellResult A)) (go : A → State → Plan X) (leave : State → List ℕ → Plan X)
    → AllCalls Q p → ((x : A) (s : State) → AllCalls Q (go x s)) → ((s : State) (owed : List ℕ) → AllCalls Q (leave s owed)) → AllCalls Q (under p go leave)
all_under Q (done_with (Next x s)) go leave k hn he = hn x s
all_under Q (done_with (Exit s owed)) go leave k hn he = he s owed
all_under Q (ask c more) go leave k hn he = (k.0, λ x. all_under Q (more x) go leave (k.1 x) hn he)
all_under Q cut go leave k hn he = tt

pub record Keeps (P : ℕ → Type 0) (o : Bool) {A : Type 0} (m : Shell A) : Type 0 where
  pub by : (s : State) → Safe P o (m s)

-- one act after another
pub bind : {P : ℕ → Type 0} {o : Bool} {A B : Type 0} (m : Shell A) (f : A → Shell B) → Keeps P o m → ((x : A) → Keeps P o (f x)) → Keeps P o (λ s. under (m s) f leaves)
bind {P} {o} m f km kf = record { by = λ s. all_under (Meets P o) (m s) f leaves (km.by s) (λ x t. (kf x).by t) (λ t owed. tt) }

pub next : {P : ℕ → Type 0} {o : Bool} {B : Type 0} (m : Runner) (f : Shell B) → Keeps P o m → Keeps P o f → Keeps P o (λ s. under (m s) (λ a. f) leaves)
next m f km kf = bind m (λ a. f) km (λ a. kf)

pub keeps_pure : {P : ℕ → Type 0} {o : Bool} {A : Type 0} (x : A) → Keeps P o (pure x)
keeps_pure x = record { by = λ s. tt }

pub keeps_skip : {P : ℕ → Type 0} {o : Bool} → Keeps P o skip
keeps_skip = record { by = λ s. tt }

pub keeps_exits : {P : ℕ → Type 0} {o : Bool} {A : Type 0} → Keeps P o (exits {A = A})
keeps_exits = record { by = λ s. tt }

pub keeps_stops : {P : ℕ → Type 0} {o : Bool} {A : Type 0} → Keeps P o (stops {A = A})
keeps_stops = record { by = λ s. tt }

pub keeps_call : {P : ℕ → Type 0} {o : Bool} (c : Call) → Meets P o c → Keeps P o (call c)
keeps_call c r = record { by = λ s. (r, λ x. tt) }

pub keeps_say : {P : ℕ → Type 0} {o : Bool} (c : Call) → Meets P o c → Keeps P o (say c)
keeps_say c r = record { by = λ s. (r, λ x. tt) }

pub keeps_change : {P : ℕ → Type 0} {o : Bool} (f : State → State) → Keeps P o (change f)
keeps_change f = record { by = λ s. tt }

pub keeps_status : {P : ℕ → Type 0} {o : Bool} (text : List ℕ) → Keeps P o (set_status text)
keeps_status text = keeps_change (λ s. with_status s text)

-- by the state
pub keeps_from : {P : ℕ → Type 0} {o : Bool} {B : Type 0} (f : State → Shell B) → ((t : State) → Keeps P o (f t)) → Keeps P o (λ s. under (get s) f leaves)
keeps_from f k = record { by = λ s. (k s).by s }

pub keeps_at : {P : ℕ → Type 0} {o : Bool} {A : Type 0} (m : State → Shell A) → ((t : State) → Keeps P o (m t)) → Keeps P o (λ s. m s s)
keeps_at m k = record { by = λ s. (k s).by s }

-- by a test
pub keeps_if : {P : ℕ → Type 0} {o : Bool} {A : Type 0} (c : Bool) (m f : Shell A) → Keeps P o m → Keeps P o f → Keeps P o (if c then m else f)
keeps_if true m f km kf = km
keeps_if false m f km kf = kf

pub keeps_choice : {P : ℕ → Type 0} {o : Bool} {A : Type 0} (test : State → Bool) (m f : Shell A) → Keeps P o m → Keeps P o f → Keeps P o (λ s. if test s then m s else f s)
keeps_choice {P} {o} test m f km kf = record { by = λ s. by_test s (test s) }
  where
    by_test : (s : State) → (b : Bool) → Safe P o (if b then m s else f s)
    by_test s true = km.by s
    by_test s false = kf.by s

-- a scope, however its body ends
pub keeps_scope : {P : ℕ → Type 0} {o : Bool} (m : Runner) (go : Unit {0} → Runner) (leave : State → List ℕ → Plan (ShellResult (Unit {0})))
    → Keeps P o m → ((x : Unit {0}) → Keeps P o (go x)) → ((t : State) (owed : List ℕ) → Safe P o (leave t owed))
    → Keeps P o (λ s. under (m s) go leave)
keeps_scope {P} {o} m go leave km kg kl = record { by = λ s. all_under (Meets P o) (m s) go leave (km.by s) (λ x t. (kg x).by t) kl }

-- a file in the place of a descriptor
pub among_file : {P : ℕ → Type 0} (slots : Slots) → AreAmong P slots → (n h : ℕ) → AreAmong P (with_slot slots n (to_file h))
among_file slots w zero h = record { input = tt; output = w.output; errors = w.errors }
among_file slots w (suc zero) h = record { input = w.input; output = tt; errors = w.errors }
among_file slots w (suc (suc n)) h = record { input = w.input; output = w.output; errors = tt }

among_slot : {P : ℕ → Type 0} (slots : Slots) → AreAmong P slots → (n : ℕ) → IsAmong P (slot_of slots n)
among_slot slots w zero = w.input
among_slot slots w (suc zero) = w.output
among_slot slots w (suc (suc n)) = w.errors

among_other : {P : ℕ → Type 0} (slots : Slots) → AreAmong P slots → (n : ℕ) (slot : Slot) → IsAmong P slot → AreAmong P (with_slot slots n slot)
among_other slots w zero slot h = record { input = h; output = w.output; errors = w.errors }
among_other slots w (suc zero) slot h = record { input = w.input; output = h; errors = w.errors }
among_other slots w (suc (suc n)) slot h = record { input = w.input; output = w.output; errors = h }

-- a copy
pub among_copy : {P : ℕ → Type 0} (slots : Slots) → AreAmong P slots → (to from : ℕ) → AreAmong P (with_slot slots to (slot_of slots from))
among_copy slots w to from = among_other slots w to (slot_of slots from) (among_slot slots w from)

-- the read end of a pipe
pub among_pipe : {P : ℕ → Type 0} (slots : Slots) → AreAmong P slots → (before : Option ℕ) → AreAmong P (from_pipe before slots)
among_pipe slots w None = w
among_pipe slots w (Some h) = among_file slots w 0 h
