-- When a limit isn't reached.
use Rattle.std.specs.Prelude.{◌≡◌, ℕ, ◌≤◌, if◌then◌else◌, false, List, [], ◌∷◌}
use Rattle.rc_model.specs.Run.Calls.{Answer, Event, fitting, is_halt}
use Rattle.rc_model.specs.Run.Plans.{Played, Ends, Waits, Cut}
use Rattle.rc_model.specs.Run.Script.{script, run, StopsAtLimit, Within}
use Rattle.rc_model.specs.Run.State.{State}
use Rattle.rc_model.specs.Syntax.Tree.{Node, cmd}

-- a plan has ended or waits for an answer
abbrev pub IsOver : {X : Type 0} → Played X → Type 0
IsOver (Ends calls x left) = Unit {0}
IsOver (Waits calls) = Unit {0}
IsOver (Cut calls) = ⊥

-- Each call of this trace was answered by the next of these answers, taken as one that fits the call; none of those is
-- a halt.
abbrev pub IsRecorded : List Answer → List Event → Type 0
IsRecorded given [] = Unit {0}
IsRecorded [] (e ∷ trace) = ⊥
IsRecorded (a ∷ given) (e ∷ trace) =
    (is_halt a ≡ false) × (e.answer ≡ fitting e.call a) × IsRecorded given trace

-- If the meaning of a script ends or waits over these answers, no run on a tape of them stops at a limit from some
-- number of instructions on.
abbrev pub LimitsEnd : Type 0
LimitsEnd = (c : Node cmd) (s : State) (given : List Answer) (n : ℕ) → IsOver (script n c s given) →
    (m : ℕ) × ((limit : ℕ) (trace : List Event) → m ≤ limit → IsRecorded given trace →
    StopsAtLimit limit c s trace → ⊥)

-- ** the same for each number of instructions that is enough

-- the events of a trace before its first halt
abbrev pub before_halt : List Event → List Event
before_halt [] = []
before_halt (e ∷ trace) = if is_halt e.answer then [] else e ∷ before_halt trace

-- a tape of these answers records this trace, up to its first halt
abbrev pub IsOnTape : List Answer → List Event → Type 0
IsOnTape given trace = IsRecorded given (before_halt trace)

-- this many instructions do all that a script means over these answers, if its meaning ends or waits
pub record IsEnough (count : ℕ) (c : Node cmd) (s : State) (given : List Answer) : Type 0 where
  pub turns : ℕ
  pub over : IsOver (script turns c s given)
  pub done : Within (script turns c s given) (run count c s given)

-- If the meaning of a script ends or waits over these answers, some number of instructions is enough.
abbrev pub SomeAreEnough : Type 0
SomeAreEnough = (c : Node cmd) (s : State) (given : List Answer) (n : ℕ) → IsOver (script n c s given) →
    (count : ℕ) × IsEnough count c s given

-- No run on a tape of these answers stops at a limit that is enough for them.
abbrev pub EnoughIsNoLimit : Type 0
EnoughIsNoLimit = (c : Node cmd) (s : State) (given : List Answer) (count limit : ℕ) (trace : List Event) →
    IsEnough count c s given → count ≤ limit → IsOnTape given trace → StopsAtLimit limit c s trace → ⊥
