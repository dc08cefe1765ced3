-- The end of code over a world: it returns the value of what it does, or it is stopped on the way.
use Rattle.std.specs.Prelude.{◌≡◌, List, Option, Some, None, Result, Ok, Err, Bool, true, false}
use Rattle.std.specs.Result.{MatchResult}
use Rattle.rc_model.specs.Run.Calls.{Call, Answer, Event, extend, recorded_by}
use Rattle.rc_model.specs.Run.Plans.{Plan, done_with, asks, RanBetween, Halted}
use Rattle.rc_model.specs.Run.State.{State}
use Rattle.rc_model.specs.Run.Shell as shell
use Rattle.rc_model.specs.Run.Shell.{Shell}
use Rattle.rc_model.specs.declared.call.Fault.{Fault}
use Rattle.rc_model.specs.declared.call.Fault.TheVariants as fault
use Rattle.rc_world.specs.declared.starts.Stop.{Stop}
use Rattle.rc_world.specs.declared.starts.Stop.TheVariants.{NoMemory, Halt}

-- the events of a world so far: None if it does not record them
abbrev pub Recording : Type 0 → Type 0
Recording W = W → Option (List Event)

-- a world records one more call, with its answer, but none that was not made
abbrev pub Records : {W : Type 0} → Recording W → W → W → Call → Answer → Type 0
Records events before after call answer = events after ≡ extend (events before) (recorded_by call answer)

-- between two records of a world, a plan was stopped: by out of memory, or by a halt with its last call unanswered
pub data Left {X : Type 0} (before after : Option (List Event)) (plan : Plan X) : Stop → Type 0 where
  for_memory : (rest : Plan X) → RanBetween before after plan rest → Left before after plan NoMemory
  by_halt : Halted before after plan → Left before after plan Halt

-- between two records of a world, a plan went on to another one, by the result, or it was stopped
abbrev pub GoesOn : {X T : Type 0} → (before after : Option (List Event)) → Plan X → (T → Plan X) →
    Result T Stop → Type 0
GoesOn before after plan rest result =
    MatchResult result (λ v. RanBetween before after plan (rest v)) (Left before after plan)

-- between two records of a world, code returned the value of a plan, as its result is viewed, or the plan was stopped
abbrev pub Comes : {X T : Type 0} → (before after : Option (List Event)) → Plan X →
    (T → X) → Result T Stop → Type 0
Comes before after plan view result =
    MatchResult result (λ v. RanBetween before after plan (done_with (view v))) (Left before after plan)

-- ** the effect of code, unless it is stopped

-- one call, whose answer is viewed in this way
abbrev pub Asks : {W V T : Type 0} → Recording W → W → W → Call → (Answer → V) →
    (T → V) → Result T Stop → Type 0
Asks events before after call taken view result = Comes (events before) (events after) (asks call taken) view result

-- an act of the shell that begins in this state and leaves it as it is
abbrev pub Reads : {W A T : Type 0} → Recording W → W → W → State → Shell A →
    (T → A) → Result T Stop → Type 0
Reads events before after s act view result =
    Comes (events before) (events after) (act s) (λ v. shell.Next (view v) s) result

-- an act of the shell, from one state to the next
abbrev pub Does : {W S A T : Type 0} → Recording W → W → W → (S → State) → S → S → Shell A →
    (T → A) → Result T Stop → Type 0
Does events before after state_of s t act view result =
    Comes (events before) (events after) (act (state_of s)) (λ v. shell.Next (view v) (state_of t)) result

-- ** calls for which only a refusal matters

-- the value of a call, or nothing if it was refused
abbrev pub unless_refused : {T : Type 0} → Result T Fault → Result (Option T) Stop
unless_refused (Ok x) = Ok (Some x)
unless_refused (Err fault.Halt) = Err Halt
unless_refused (Err fault.NoMemory) = Err NoMemory
unless_refused (Err f) = Ok None

-- whether a call without a value was done
abbrev pub was_done : Result (Unit {0}) Fault → Result Bool Stop
was_done (Ok x) = Ok true
was_done (Err fault.Halt) = Err Halt
was_done (Err fault.NoMemory) = Err NoMemory
was_done (Err f) = Ok false
