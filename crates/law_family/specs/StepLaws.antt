-- The laws of the steps of a family, of the families that they make, and of the start of each process.
use Rattle.std.specs.Prelude.{◌≡◌, ℕ, ◌<◌, List, ◌∷◌, ◌++◌, None, ◌⊎◌}
use Rattle.rc_model.specs.Run.Calls.{Launch, start, Answer, child, Event, event, answers}
use Rattle.rc_model.specs.Run.State.{State}
use Rattle.rc_model.specs.Syntax.Tree.{Node, cmd}
use Rattle.rc_model.specs.Family.Family.{Process, Family, FamilyEvent, EachOf, family, first}
use Rattle.rc_model.specs.Family.Family.{AreFresh, Sane, ArePossible}
use Rattle.rc_model.specs.Family.Family.{WasStarted, read_launch}
use Rattle.rc_model.specs.Family.Steps.{HitsLimit, IsInTime, StepFault, IsStepRefused, IsMade, CanMake, IsMadeBy, IsAsMade}
use Rattle.rc_model.specs.Family.Steps.{IsPromised, answers_at}

-- ** steps that are made or refused

-- Each answer for each process of a family whose processes are in time is refused, or it makes a step.
abbrev pub MadeOrRefused : Type 0
MadeOrRefused = (reads : Launch → Node cmd × State) (limit : ℕ) (f : Family) (k : ℕ) (x : Answer) →
    EachOf (IsInTime limit) f → ((a : StepFault) × IsStepRefused reads limit f k x a) ⊎ CanMake reads limit f k x

-- It is never both.
abbrev pub NeverBoth : Type 0
NeverBoth = (reads : Launch → Node cmd × State) (limit : ℕ) (f : Family) (k : ℕ) (x : Answer) (a : StepFault) →
    IsStepRefused reads limit f k x a → CanMake reads limit f k x → ⊥

-- It is refused for one reason.
abbrev pub OneFault : Type 0
OneFault = (reads : Launch → Node cmd × State) (limit : ℕ) (f : Family) (k : ℕ) (x : Answer) (a b : StepFault) →
    IsStepRefused reads limit f k x a → IsStepRefused reads limit f k x b → a ≡ b

-- It makes one step.
abbrev pub OneCall : Type 0
OneCall = (reads : Launch → Node cmd × State) (limit : ℕ) (f : Family) (d e : FamilyEvent) → IsMade reads limit f d →
    IsMade reads limit f e → d.at ≡ e.at → d.call ≡ e.call

-- The first process of a family is in time, or it hits the limit, and never both.
pub record OneBeginning (limit : ℕ) (p : Process) : Type 0 where
  pub either : IsInTime limit p ⊎ HitsLimit limit p
  pub not_both : IsInTime limit p → HitsLimit limit p → ⊥

-- ** families that were made

-- The properties of families that were made this way, whatever the answers are.
abbrev pub MadeAreAsMade : Type 0
MadeAreAsMade = (reads : Launch → Node cmd × State) (limit : ℕ) (c : Node cmd) (s : State) (es : List FamilyEvent) →
    IsMadeBy reads limit c s es → IsAsMade reads limit c s es (family reads (first reads c s) es)

-- Over fresh answers such families are sane, too.
abbrev pub MadeAreSane : Type 0
MadeAreSane = (reads : Launch → Node cmd × State) (limit : ℕ) (c : Node cmd) (s : State) (es : List FamilyEvent) →
    IsMadeBy reads limit c s es → AreFresh (family reads (first reads c s) es) →
    Sane reads c s (family reads (first reads c s) es)

-- The promises for shells that read what they are handed are kept, after any number of steps.
abbrev pub PromisesAreKept : Type 0
PromisesAreKept = (limit : ℕ) (c : Node cmd) (s : State) (es : List FamilyEvent) → IsMadeBy read_launch limit c s es →
    IsPromised limit c s es (family read_launch (first read_launch c s) es)

-- The answers of a process are those of its steps.
abbrev pub AnswersAreGiven : Type 0
AnswersAreGiven =
    (reads : Launch → Node cmd × State) (limit : ℕ) (c : Node cmd) (s : State) (es : List FamilyEvent) (k : ℕ) →
    IsMadeBy reads limit c s es → answers ((family reads (first reads c s) es).at k).trace ≡ answers_at k es

-- ** the start of each process

-- A process was started by one event of one trace, whatever numbers were given.
abbrev pub OneStart : Type 0
OneStart = (reads : Launch → Node cmd × State) (f : Family) (j k m : ℕ) (w : WasStarted reads f j k)
    (v : WasStarted reads f j m) → (k ≡ m) × (w.before ≡ v.before) × (w.launch ≡ v.launch)

-- Two processes were started by two events.
abbrev pub OneChild : Type 0
OneChild = (reads : Launch → Node cmd × State) (f : Family) (i j k : ℕ) (w : WasStarted reads f i k)
    (v : WasStarted reads f j k) → w.before ≡ v.before → i ≡ j

-- after these events of a process there is the start of a shell
pub record IsStart (p : Process) (before : List Event) : Type 0 where
  pub launch : Launch
  pub number : ℕ
  pub later : List Event
  pub shell : launch.program ≡ None
  pub in_trace : p.trace ≡ before ++ event (start launch) (child number) ∷ later

-- the process that process k started after these events
pub record IsChild (reads : Launch → Node cmd × State) (f : Family) (k : ℕ) (before : List Event) : Type 0 where
  pub at : ℕ
  pub in_family : at < f.count
  pub started : WasStarted reads f at k
  pub by_start : started.before ≡ before

-- Each start of a shell that was answered by a child made a process.
abbrev pub EachStartMakes : Type 0
EachStartMakes = (reads : Launch → Node cmd × State) (c : Node cmd) (s : State) (es : List FamilyEvent) →
    ArePossible reads (first reads c s) es → (k : ℕ) (before : List Event) →
    k < (family reads (first reads c s) es).count →
    IsStart ((family reads (first reads c s) es).at k) before →
    IsChild reads (family reads (first reads c s) es) k before
