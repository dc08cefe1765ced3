-- The steps of a family whose processes run at most a given number of instructions, and the families that they make.
use Rattle.std.specs.Prelude.{◌≡◌, ℕ, ◌≤◌, ◌<◌, List, [], ◌∷◌, ◌++◌, Option, None, Some, ◌⊎◌, if◌then◌else◌, nat_eq}
use Rattle.rc_model.specs.Run.Calls.{Launch, Call, Answer, calls, answers}
use Rattle.rc_model.specs.Run.Plans.{IsAnswered, Ends, Waits, Cut}
use Rattle.rc_model.specs.Run.Script.{run}
use Rattle.rc_model.specs.Run.State.{State}
use Rattle.rc_model.specs.Syntax.Tree.{Node, cmd}
use Rattle.rc_model.specs.Family.Family.{Process, Family, FamilyEvent, IsPending, HasEnded}
use Rattle.rc_model.specs.Family.Family.{GoesAsMeant, EachOf, OnePerStart}
use Rattle.rc_model.specs.Family.Family.{HandedSo, shell_started, child_process, recorded, stepped, first}
use Rattle.rc_model.specs.Family.Family.{AreFresh, Sane, read_launch, AllRead}
use Rattle.rc_model.specs.Handed.Proper.{IsProperTree, IsProper}

-- ** a process and its limit

-- over its own answers the code of a process has made all its calls and run as many instructions as the limit, and has
-- reached neither its end nor a call that wants an answer
abbrev pub HitsLimit : ℕ → Process → Type 0
HitsLimit limit p = run limit p.tree p.state (answers p.trace) ≡ Cut (calls p.trace)

-- within the limit its code reaches this call, which wants an answer
abbrev pub WaitsInTime : ℕ → Process → Call → Type 0
WaitsInTime limit p c = run limit p.tree p.state (answers p.trace) ≡ Waits (calls p.trace ++ c ∷ [])

-- within the limit its code reaches its end
abbrev pub EndsInTime : ℕ → Process → Type 0
EndsInTime limit p = (t : State) × (run limit p.tree p.state (answers p.trace) ≡ Ends (calls p.trace) t [])

-- within the limit its code reaches a call that wants an answer, or its end
abbrev pub IsInTime : ℕ → Process → Type 0
IsInTime limit p = ((c : Call) × WaitsInTime limit p c) ⊎ EndsInTime limit p

-- its code reaches neither within the limit, whatever it calls before
abbrev pub IsCutShort : ℕ → Process → Type 0
IsCutShort limit p = (made : List Call) × (run limit p.tree p.state (answers p.trace) ≡ Cut made)

-- ** steps

-- why a step is refused: there is no such process, or it has ended; the answer doesn't fit its call; the limit is hit
pub data StepFault : Type 0 where
  NoProcess : StepFault
  AtEnd : StepFault
  WrongKind : StepFault
  AtLimit : StepFault

-- a process that satisfies this is appended
abbrev pub AppendsSuch : (Launch → Node cmd × State) → (Process → Type 0) → ℕ → Process → Option (Launch × ℕ) → Type 0
AppendsSuch reads P k p None = ⊥
AppendsSuch reads P k p (Some (l, n)) = P (child_process reads k p l n)

module _ (reads : Launch → Node cmd × State) (limit : ℕ) where
  -- when a step is refused, in this order: each case says that none before it holds
  abbrev pub IsStepRefused : Family → ℕ → Answer → StepFault → Type 0
  IsStepRefused f k x NoProcess = f.count ≤ k
  IsStepRefused f k x AtEnd = (k < f.count) × HasEnded (f.at k)
  IsStepRefused f k x WrongKind = (k < f.count) × ((c : Call) × IsPending (f.at k) c × (IsAnswered c x → ⊥))
  IsStepRefused f k x AtLimit =
      (k < f.count) × ((c : Call) × IsPending (f.at k) c × IsAnswered c x ×
      (HitsLimit limit (recorded (f.at k) c x) ⊎ AppendsSuch reads (HitsLimit limit) k (f.at k) (shell_started c x)))

  -- a step is made: it answers the pending call, and each process of the family after it is in time
  pub record IsMade (f : Family) (e : FamilyEvent) : Type 0 where
    pub in_family : e.at < f.count
    pub pending : IsPending (f.at e.at) e.call
    pub answered : IsAnswered e.call e.answer
    pub in_time : EachOf (IsInTime limit) (stepped reads f e)

  -- process k and this answer make a step
  pub record CanMake (f : Family) (k : ℕ) (x : Answer) : Type 0 where
    pub call : Call
    pub made : IsMade f (record { at = k; call = call; answer = x })

  -- these steps are made, one after the other
  abbrev pub AreMade : Family → List FamilyEvent → Type 0
  AreMade f [] = Unit {0}
  AreMade f (e ∷ es) = IsMade f e × AreMade (stepped reads f e) es

  -- a family begins with a process that is in time, and these steps are made
  pub record IsMadeBy (c : Node cmd) (s : State) (es : List FamilyEvent) : Type 0 where
    pub begun : EachOf (IsInTime limit) (first reads c s)
    pub made : AreMade (first reads c s) es

  -- ** the properties of families that were made this way, whatever the answers are

  pub record IsAsMade (c : Node cmd) (s : State) (es : List FamilyEvent) (f : Family) : Type 0 where
    -- each process has a call that waits for an answer, or has ended, by its code and by its meaning
    pub in_time : EachOf (IsInTime limit) f
    pub as_meant : EachOf GoesAsMeant f
    -- there is one process for each start, and each began with what it was handed
    pub one_per_start : OnePerStart reads c s es
    pub handed : (j : ℕ) → j < f.count → HandedSo reads c s f j

-- ** the answers of each process

-- the answers of the steps of process k
abbrev pub answers_at : ℕ → List FamilyEvent → List Answer
answers_at k [] = []
answers_at k (e ∷ es) = if nat_eq e.at k then e.answer ∷ answers_at k es else answers_at k es

-- ** the promises for shells that read what they are handed

-- a family that was made by these steps
pub record IsPromised (limit : ℕ) (c : Node cmd) (s : State) (es : List FamilyEvent) (f : Family) : Type 0 where
  -- each process does what its script means, over its own answers, and there is one for each start of a shell
  pub as_made : IsAsMade read_launch limit c s es f
  -- if the first script is a proper tree and its state is proper, each process began with what the one that started it
  -- handed over
  pub read : IsProperTree c → IsProper s → AllRead f
  -- over fresh answers nothing is lost, a write end is handed to at most one child, and no shells wait for each other
  -- in a cycle
  pub sane : AreFresh f → Sane read_launch c s f
