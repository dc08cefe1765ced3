-- The changes of a step of a family.
use Rattle.std.specs.Prelude.{◌≡◌, ℕ, ◌<◌, ◌≤◌, List, ◌++◌, length, Option, Some, None, slice_index_or, slice_set}
use Rattle.std.specs.Option.{option_to_list}
use Rattle.rc_model.specs.Run.Calls as calls
use Rattle.rc_model.specs.Run.Plans.{IsAnswered}
use Rattle.rc_model.specs.Family.Family.{recorded, read_launch, shell_started}
use Rattle.rc_model.specs.Family.Steps.{IsMade}
use Rattle.rc_world.specs.Views.{call_of}
use Rattle.rc_world.specs.declared.event.Call.{Call}
use Rattle.rc_shell.specs.Families.{made_of}
use Rattle.rc_shell.specs.Held.{Held}
use Rattle.rc_shell.specs.Made.{answering, processes}
use Rattle.rc_shell.specs.Standings.{StandsAt, StartsAs}
use Rattle.rc_shell.specs.declared.family.family_fault.FamilyFault.{FamilyFault}
use Rattle.rc_shell.specs.declared.family.family_fault.FamilyFault.TheVariants as fault
use Rattle.rc_shell.specs.declared.family.process_steps.Process.{Process}
use Rattle.rc_shell.specs.declared.family.process_steps.Change.{Change}

-- process k has this pending call
abbrev pub WaitsAt : List Process → ℕ → Option Call → Type 0
WaitsAt ps k o = (k < length ps) × ((p : Process) → (slice_index_or ps k p).pending ≡ o)

-- and this answer fits it
abbrev pub IsAnsweredAt : List Process → ℕ → Call → calls.Answer → Type 0
IsAnsweredAt ps k c x = WaitsAt ps k (Some c) × IsAnswered (call_of c) x

-- why there is no such call
abbrev pub IsNotAnswered : List Process → ℕ → calls.Answer → FamilyFault → Type 0
IsNotAnswered ps k x fault.NoProcess = length ps ≤ k
IsNotAnswered ps k x fault.Ended = WaitsAt ps k None
IsNotAnswered ps k x fault.WrongKind = (c : Call) × WaitsAt ps k (Some c) × (IsAnswered (call_of c) x → ⊥)
IsNotAnswered ps k x _ = ⊥

-- the changes of a step of process k with this answer
pub record Changes (h : Held) (k : ℕ) (x : calls.Answer) (change : Change) : Type 0 where
  pub in_family : k < length h.processes
  pub same : call_of change.answered ≡ call_of change.kept
  pub made : IsMade read_launch h.limit (processes (made_of h)) (answering k (call_of change.kept) x)
  pub stands : StandsAt h.limit (recorded ((processes (made_of h)).at k) (call_of change.kept) x) change.pending
  pub starts : StartsAs h.limit (shell_started (call_of change.kept) x) change.child

-- the processes after it
abbrev pub IsChanged : List Process → ℕ → Option Call → Option Process → List Process → Type 0
IsChanged ps k pending child new =
    (p : Process) → new ≡ slice_set ps k (record (slice_index_or ps k p) { pending = pending }) ++ option_to_list child
