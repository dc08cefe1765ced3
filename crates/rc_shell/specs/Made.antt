-- A family by its first process and the steps that were made, and the results of its calls.
use Rattle.std.specs.Prelude.{◌≡◌, ℕ, ◌<◌, ◌≤◌, List, [], ◌∷◌, ◌++◌, Option, Some, None}
use Rattle.rc_model.specs.Run.Calls.{Call, Answer}
use Rattle.rc_model.specs.Run.Plans.{IsAnswered}
use Rattle.rc_model.specs.Run.State.{State}
use Rattle.rc_model.specs.Syntax.Tree.{Node, cmd}
use Rattle.rc_model.specs.Family.Family.{Process, Family, FamilyEvent, IsPending, HasEnded}
use Rattle.rc_model.specs.Family.Family.{OneAtATime, first, family, stepped}
use Rattle.rc_model.specs.Family.Family.{read_launch, AllRead}
use Rattle.rc_model.specs.Family.Steps.{HitsLimit, IsMade, IsMadeBy, IsStepRefused, NoProcess, AtEnd, WrongKind, AtLimit}
use Rattle.rc_model.specs.Family.Steps.{IsPromised}
use Rattle.rc_shell.specs.declared.family.family_fault.FamilyFault.{FamilyFault}
use Rattle.rc_shell.specs.declared.family.family_fault.FamilyFault.TheVariants as fault

-- the limit of each process, what process 0 was handed, and the steps
pub record Made : Type 0 where
  pub limit : ℕ
  pub tree : Node cmd
  pub state : State
  pub steps : List FamilyEvent

-- a family before any step
abbrev pub newly_made : ℕ → Node cmd → State → Made
newly_made limit t s = record { limit = limit; tree = t; state = s; steps = [] }

-- the processes of shells that read what they are handed
abbrev pub processes : Made → Family
processes m = family read_launch (first read_launch m.tree m.state) m.steps

-- the first process, before any step
abbrev pub first_process : Node cmd → State → Process
first_process t s = (first read_launch t s).at 0

-- process k and the answer to a call
abbrev pub answering : ℕ → Call → Answer → FamilyEvent
answering k c x = record { at = k; call = c; answer = x }

-- one step more
abbrev pub with_step : Made → FamilyEvent → Made
with_step m e = record m { steps = m.steps ++ e ∷ [] }

-- ** the promises

-- each step was made, and the promises for families that are made by such steps are kept
pub record KeepsPromise (m : Made) : Type 0 where
  pub made : IsMadeBy read_launch m.limit m.tree m.state m.steps
  pub promised : IsPromised m.limit m.tree m.state m.steps (processes m)
  -- so each process began with what the one that started it handed over
  pub read : AllRead (processes m)

-- ** the results of the calls

-- why there is no family: the first process hits the limit
abbrev pub BeginsNot : ℕ → Node cmd → State → FamilyFault → Type 0
BeginsNot limit t s fault.Limit = HitsLimit limit (first_process t s)
BeginsNot limit t s fault.NoMemory = Unit {0}
BeginsNot limit t s _ = ⊥

-- a step of process k that answers this call with this answer is made
pub record Steps (before after : Made) (k : ℕ) (x : Answer) (c : Call) : Type 0 where
  pub made : IsMade read_launch before.limit (processes before) (answering k c x)
  pub is : after ≡ with_step before (answering k c x)
  -- so its event is added to the trace of process k, no other process changes, and one is appended at most
  pub family_is : processes after ≡ stepped read_launch (processes before) (answering k c x)
  pub one_at_a_time : OneAtATime read_launch (processes before) (answering k c x)

-- process k has a call that this answer fits
pub record IsAnswering (m : Made) (k : ℕ) (x : Answer) : Type 0 where
  pub in_family : k < (processes m).count
  pub call : Call
  pub pending : IsPending ((processes m).at k) call
  pub answered : IsAnswered call x

-- why a step is refused; out of memory only comes in place of the limit or of an answer
abbrev pub StepsNot : Made → ℕ → Answer → FamilyFault → Type 0
StepsNot m k x fault.NoProcess = IsStepRefused read_launch m.limit (processes m) k x NoProcess
StepsNot m k x fault.Ended = IsStepRefused read_launch m.limit (processes m) k x AtEnd
StepsNot m k x fault.WrongKind = IsStepRefused read_launch m.limit (processes m) k x WrongKind
StepsNot m k x fault.Limit = IsStepRefused read_launch m.limit (processes m) k x AtLimit
StepsNot m k x fault.NoMemory = IsAnswering m k x

-- the pending call of process k: none if it has ended, or if there is no such process
pub data PendingAt (m : Made) (k : ℕ) : Option Call → Type 0 where
  waits : (c : Call) → k < (processes m).count → IsPending ((processes m).at k) c → PendingAt m k (Some c)
  ended : k < (processes m).count → HasEnded ((processes m).at k) → PendingAt m k None
  no_process : (processes m).count ≤ k → PendingAt m k None
