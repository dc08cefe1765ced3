-- What an act of a shell keeps: its state stays proper, and each shell that it starts is handed what the rule says that
-- starts it, and reads it back.
use Rattle.std.proofs.Common.{◌≡◌, refl, ap, ◌∙◌, ℕ, List, Bool, true, false, Option, Some, None}
use Rattle.std.specs.Prelude.{if◌then◌else◌}
use Rattle.rc_model.specs.declared.call.Slots.{Slots}
use Rattle.rc_model.specs.Syntax.Tree.{Node, cmd}
use Rattle.rc_model.specs.Run.Calls.{Call, Launch, start, Answer}
use Rattle.rc_model.specs.Run.Plans.{Plan, done_with, ask, cut}
use Rattle.rc_model.specs.Run.State.{State, with_status}
use Rattle.rc_model.specs.Run.Shell.{ShellResult, Next, Exit, Shell, under, leaves, pure, skip, call, say, get, change, exits, stops}
use Rattle.rc_model.specs.Run.Acts.{set_status, stage_with, stages_from, subshell, background_with, back_pipe}
use Rattle.rc_model.specs.Run.Meaning.{Runner}
use Rattle.rc_model.specs.Handed.Proper.{IsProper}
use Rattle.rc_model.specs.Handed.Started.{Starts, a_stage, a_subshell, a_job, a_backquote, LaunchedByRule, CalledByRule}
use Rattle.law_image.proofs.Proper.{proper_same}

-- one plan under others, which are under others again
under_under : {A B X : Type 0} (p : Plan (ShellResult A)) (f : A → State → Plan (ShellResult B)) (l : State → List ℕ → Plan (ShellResult B)) (go : B → State → Plan X) (leave : State → List ℕ → Plan X)
    → under (under p f l) go leave ≡ under p (λ a s. under (f a s) go leave) (λ s owed. under (l s owed) go leave)
under_under (done_with (Next a s)) f l go leave = refl
under_under (done_with (Exit s owed)) f l go leave = refl
under_under (ask c more) f l go leave = λ i. ask c (λ x. under_under (more x) f l go leave i)
under_under cut f l go leave = refl

-- a plan alone
pub alone : {A : Type 0} (p : Plan (ShellResult A)) → under p pure leaves ≡ p
alone (done_with (Next a s)) = refl
alone (done_with (Exit s owed)) = refl
alone (ask c more) = λ i. ask c (λ x. alone (more x) i)
alone cut = refl

-- what is at the start of a shell is so with what follows it, too
starts_under : {A X : Type 0} (q : Plan (ShellResult A)) (go : A → State → Plan X) (leave : State → List ℕ → Plan X) (slots : Slots) (body : Node cmd) (s : State)
    → Starts (ShellResult A) q slots body s → Starts X (under q go leave) slots body s
starts_under q go leave slots body s (a_stage outer slot others before children r w f l is at) =
    a_stage outer slot others before children r w (λ a t. under (f a t) go leave) (λ t owed. under (l t owed) go leave)
    (ap (λ z. under z go leave) is ∙ under_under (stage_with (stages_from outer others) outer body slot before children (Some (r, w)) s) f l go leave) at
starts_under q go leave slots body s (a_subshell f l is) =
    a_subshell (λ a t. under (f a t) go leave) (λ t owed. under (l t owed) go leave) (ap (λ z. under z go leave) is ∙ under_under (subshell slots body s) f l go leave)
starts_under q go leave slots body s (a_job outer file f l is at) =
    a_job outer file (λ a t. under (f a t) go leave) (λ t owed. under (l t owed) go leave) (ap (λ z. under z go leave) is ∙ under_under (background_with outer body (Some file) s) f l go leave) at
starts_under q go leave slots body s (a_backquote outer r w f l is at) =
    a_backquote outer r w (λ a t. under (f a t) go leave) (λ t owed. under (l t owed) go leave) (ap (λ z. under z go leave) is ∙ under_under (back_pipe outer body (Some (r, w)) s) f l go leave) at

launched_under : {A X : Type 0} (q : Plan (ShellResult A)) (go : A → State → Plan X) (leave : State → List ℕ → Plan X) (l : Launch) (o : Option (List ℕ))
    → LaunchedByRule (ShellResult A) q l o → LaunchedByRule X (under q go leave) l o
launched_under q go leave l None h = record {
  body = h.body;
  state = h.state;
  starts = starts_under q go leave l.slots h.body h.state h.starts;
  is = h.is;
  fits = h.fits;
  tree = h.tree;
  proper = h.proper;
  back = h.back;
}
launched_under q go leave l (Some path) h = tt

called_under : {A X : Type 0} (q : Plan (ShellResult A)) (go : A → State → Plan X) (leave : State → List ℕ → Plan X) (c : Call) → CalledByRule (ShellResult A) q c → CalledByRule X (under q go leave) c
called_under q go leave (start l) h = launched_under q go leave l l.program h
called_under q go leave _ h = tt

-- each call hands over what its rule says, whatever the answers, and at the end this holds
abbrev pub Safe : {X : Type 0} → Plan X → (X → Type 0) → Type 0
Safe (done_with x) Q = Q x
Safe {X = X} (ask c go) Q = CalledByRule X (ask c go) c × ((x : Answer) → Safe (go x) Q)
Safe cut Q = Unit {0}

pub safe_under : {A X : Type 0} (p : Plan (ShellResult A)) (go : A → State → Plan X) (leave : State → List ℕ → Plan X) (P : ShellResult A → Type 0) (Q : X → Type 0)
    → Safe p P → ((x : A) (s : State) → P (Next x s) → Safe (go x s) Q) → ((s : State) (owed : List ℕ) → P (Exit s owed) → Safe (leave s owed) Q) → Safe (under p go leave) Q
safe_under (done_with (Next x s)) go leave P Q k hn he = hn x s k
safe_under (done_with (Exit s owed)) go leave P Q k hn he = he s owed k
safe_under (ask c more) go leave P Q k hn he = (called_under (ask c more) go leave c k.0, λ x. safe_under (more x) go leave P Q (k.1 x) hn he)
safe_under cut go leave P Q k hn he = tt

-- a call that starts no shell
abbrev pub IsProgram : Option (List ℕ) → Type 0
IsProgram None = ⊥
IsProgram (Some path) = Unit {0}

abbrev pub StartsNoShell : Call → Type 0
StartsNoShell (start l) = IsProgram l.program
StartsNoShell _ = Unit {0}

no_shell_by : {X : Type 0} (now : Plan X) (l : Launch) (o : Option (List ℕ)) → IsProgram o → LaunchedByRule X now l o
no_shell_by now l None h = absurd h
no_shell_by now l (Some path) h = tt

no_shell : {X : Type 0} (now : Plan X) (c : Call) → StartsNoShell c → CalledByRule X now c
no_shell now (start l) h = no_shell_by now l l.program h
no_shell now _ h = tt

-- the value is so, and the state is proper
abbrev pub EndsSo : {A : Type 0} → (A → Type 0) → ShellResult A → Type 0
EndsSo Q (Next x s) = Q x × IsProper s
EndsSo Q (Exit s owed) = IsProper s

pub record Gives {A : Type 0} (Q : A → Type 0) (m : Shell A) : Type 0 where
  pub by : (s : State) → IsProper s → Safe (m s) (EndsSo Q)

-- of the value nothing is said
abbrev pub Anything : {A : Type 0} → A → Type 0
Anything x = Unit {0}

abbrev pub Keeps : {A : Type 0} → Shell A → Type 0
Keeps m = Gives Anything m

-- one act after another
pub bind_so : {A B : Type 0} {P : A → Type 0} {Q : B → Type 0} (m : Shell A) (f : A → Shell B) → Gives P m → ((x : A) → P x → Gives Q (f x)) → Gives Q (λ s. under (m s) f leaves)
bind_so {P = P} {Q = Q} m f km kf = record { by = λ s p. safe_under (m s) f leaves (EndsSo P) (EndsSo Q) (km.by s p) (λ x t h. (kf x h.0).by t h.1) (λ t owed h. h) }

pub bind : {A B : Type 0} {Q : B → Type 0} (m : Shell A) (f : A → Shell B) → Keeps m → ((x : A) → Gives Q (f x)) → Gives Q (λ s. under (m s) f leaves)
bind m f km kf = bind_so m f km (λ x h. kf x)

pub next : {B : Type 0} {Q : B → Type 0} (m : Runner) (o : Shell B) → Keeps m → Gives Q o → Gives Q (λ s. under (m s) (λ a. o) leaves)
next m o km ko = bind m (λ a. o) km (λ a. ko)

pub gives_pure : {A : Type 0} {Q : A → Type 0} (x : A) → Q x → Gives Q (pure x)
gives_pure x q = record { by = λ s p. (q, p) }

pub keeps_pure : {A : Type 0} (x : A) → Keeps (pure x)
keeps_pure x = record { by = λ s p. (tt, p) }

pub keeps_skip : Keeps skip
keeps_skip = record { by = λ s p. (tt, p) }

pub gives_exits : {A : Type 0} {Q : A → Type 0} → Gives Q (exits {A = A})
gives_exits = record { by = λ s p. p }

pub gives_stops : {A : Type 0} {Q : A → Type 0} → Gives Q (stops {A = A})
gives_stops = record { by = λ s p. tt }

pub keeps_call : (c : Call) → StartsNoShell c → Keeps (call c)
keeps_call c r = record { by = λ s p. (no_shell (call c s) c r, λ x. (tt, p)) }

pub keeps_say : (c : Call) → StartsNoShell c → Keeps (say c)
keeps_say c r = record { by = λ s p. (no_shell (say c s) c r, λ x. (tt, p)) }

pub keeps_change : (f : State → State) → ((s : State) → IsProper s → IsProper (f s)) → Keeps (change f)
keeps_change f h = record { by = λ s p. (tt, h s p) }

-- a change of what is neither a variable nor a function
pub keeps_other : (f : State → State) → ((s : State) → (f s).variables ≡ s.variables) → ((s : State) → (f s).functions ≡ s.functions) → Keeps (change f)
keeps_other f v g = keeps_change f (λ s p. proper_same s (f s) (v s) (g s) p)

pub keeps_status : (text : List ℕ) → Keeps (set_status text)
keeps_status text = keeps_other (λ s. with_status s text) (λ s. refl) (λ s. refl)

-- by the state
pub gives_from : {B : Type 0} {Q : B → Type 0} (f : State → Shell B) → ((t : State) → IsProper t → Gives Q (f t)) → Gives Q (λ s. under (get s) f leaves)
gives_from f k = record { by = λ s p. (k s p).by s p }

pub gives_at : {A : Type 0} {Q : A → Type 0} (m : State → Shell A) → ((t : State) → IsProper t → Gives Q (m t)) → Gives Q (λ s. m s s)
gives_at m k = record { by = λ s p. (k s p).by s p }

-- by a test
pub gives_if : {A : Type 0} {Q : A → Type 0} (c : Bool) (m o : Shell A) → Gives Q m → Gives Q o → Gives Q (if c then m else o)
gives_if true m o km ko = km
gives_if false m o km ko = ko

pub gives_choice : {A : Type 0} {Q : A → Type 0} (test : State → Bool) (m o : Shell A) → Gives Q m → Gives Q o → Gives Q (λ s. if test s then m s else o s)
gives_choice {Q = Q} test m o km ko = record { by = λ s p. by_test s p (test s) }
  where
    by_test : (s : State) → IsProper s → (b : Bool) → Safe (if b then m s else o s) (EndsSo Q)
    by_test s p true = km.by s p
    by_test s p false = ko.by s p

-- a scope, however its body ends
pub keeps_scope : (m : Runner) (go : Unit {0} → Runner) (leave : State → List ℕ → Plan (ShellResult (Unit {0}))) → Keeps m
    → ((x : Unit {0}) → Keeps (go x)) → ((t : State) (owed : List ℕ) → IsProper t → Safe (leave t owed) (EndsSo Anything))
    → Keeps (λ s. under (m s) go leave)
keeps_scope m go leave km kg kl = record { by = λ s p. safe_under (m s) go leave (EndsSo Anything) (EndsSo Anything) (km.by s p) (λ x t h. (kg x).by t h.1) kl }
