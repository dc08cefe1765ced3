-- How far the code of a process runs over its answers.
use Rattle.std.specs.Prelude.{◌≡◌, ℕ, List, [], ◌∷◌, ◌++◌, Bool, true, false, Option, Some, None}
use Rattle.rc_model.specs.Run.Calls as calls
use Rattle.rc_model.specs.Run.Plans.{Ends, Waits, Cut}
use Rattle.rc_model.specs.Run.Script.{run}
use Rattle.rc_model.specs.Run.State.{State}
use Rattle.rc_model.specs.Syntax.Tree.{Node, cmd}
use Rattle.rc_machine.specs.declared.machine.Progress.{Progress}
use Rattle.rc_machine.specs.declared.machine.Progress.TheVariants as progress
use Rattle.rc_world.specs.Views.{call_of}
use Rattle.rc_world.specs.declared.event.Call.{Call}
use Rattle.rc_shell.specs.declared.family.family_fault.FamilyFault.{FamilyFault}
use Rattle.rc_shell.specs.declared.family.family_fault.FamilyFault.TheVariants as fault
use Rattle.rc_shell.specs.declared.family.replaying.ReplayEnd.{ReplayEnd}
use Rattle.rc_shell.specs.declared.family.replaying.ReplayEnd.TheVariants.{Waiting, Ended, Limit}

-- within the limit the code reached a call, or its end, or neither
abbrev pub IsReached : ℕ → Node cmd → State → List calls.Answer → ReplayEnd → Type 0
IsReached limit t s given (Waiting c) =
    (made : List calls.Call) × (run limit t s given ≡ Waits (made ++ call_of c ∷ []))
IsReached limit t s given Ended =
    (made : List calls.Call) × (end : State) × (left : List calls.Answer) × (run limit t s given ≡ Ends made end left)
IsReached limit t s given Limit = (made : List calls.Call) × (run limit t s given ≡ Cut made)

-- a call is the last of some
abbrev pub IsLast : calls.Call → List calls.Call → Type 0
IsLast c made = (before : List calls.Call) × (made ≡ before ++ c ∷ [])

-- how far a run with these calls came
abbrev pub IsSaid : Progress → List calls.Call → ReplayEnd → Type 0
IsSaid progress.Halted made (Waiting c) = IsLast (call_of c) made
IsSaid progress.Ended made Ended = Unit {0}
IsSaid progress.Limit made Limit = Unit {0}
IsSaid _ made _ = ⊥

-- the call that the code reaches, or its end
abbrev pub ComesTo : ℕ → Node cmd → State → List calls.Answer → Option Call → Type 0
ComesTo limit t s given (Some c) = IsReached limit t s given (Waiting c)
ComesTo limit t s given None = IsReached limit t s given Ended

-- why it reaches neither
abbrev pub ComesNot : ℕ → Node cmd → State → List calls.Answer → FamilyFault → Type 0
ComesNot limit t s given fault.Limit = IsReached limit t s given Limit
ComesNot limit t s given fault.NoMemory = Unit {0}
ComesNot limit t s given _ = ⊥

-- a test of a fact
abbrev pub Tells : Type 0 → Bool → Type 0
Tells P true = P
Tells P false = P → ⊥
