-- Plans: trees of calls. A plan ends with a value, makes a call and goes on with the answer, or is cut when its turns
-- or instructions are used up.
use Rattle.std.specs.Prelude.{◌≡◌, List, [], ◌∷◌, ◌++◌, Option, if◌then◌else◌, false}
use Rattle.rc_model.specs.Run.Calls.{Call, Answer, refused, Halt, fitting, is_halt, Event, event, extend}

-- a plan: a value, or a call and the plan after each answer, or a cut
pub data Plan (X : Type 0) : Type 0 where
  done_with : X → Plan X
  ask : Call → (Answer → Plan X) → Plan X
  cut : Plan X

-- one plan and then another, given the value of the first
abbrev pub and_then : {X Y : Type 0} → Plan X → (X → Plan Y) → Plan Y
and_then (done_with x) next = next x
and_then (ask c go) next = ask c (λ a. and_then (go a) next)
and_then cut next = cut

-- one call, and a value made of its answer
abbrev pub asks : {X : Type 0} → Call → (Answer → X) → Plan X
asks c view = ask c (λ a. done_with (view a))

-- the outcome of a plan over a list of answers: the calls made, and then a value with the answers left, a last call
-- that waits for its answer, or a cut
pub data Played (X : Type 0) : Type 0 where
  Ends : (calls : List Call) → X → (left : List Answer) → Played X
  Waits : (calls : List Call) → Played X
  Cut : (calls : List Call) → Played X

-- the same outcome, after one more call
abbrev pub after_call : {X : Type 0} → Call → Played X → Played X
after_call c (Ends calls x left) = Ends (c ∷ calls) x left
after_call c (Waits calls) = Waits (c ∷ calls)
after_call c (Cut calls) = Cut (c ∷ calls)

-- each call takes the next answer, made to fit it; a halt ends the list
abbrev pub play : {X : Type 0} → Plan X → List Answer → Played X
play (done_with x) answers = Ends [] x answers
play (ask c go) [] = Waits (c ∷ [])
play (ask c go) (a ∷ rest) = if is_halt a then Waits (c ∷ []) else after_call c (play (go (fitting c a)) rest)
play cut answers = Cut []

-- the calls that were made
abbrev pub calls_made : {X : Type 0} → Played X → List Call
calls_made (Ends calls x left) = calls
calls_made (Waits calls) = calls
calls_made (Cut calls) = calls

-- the call was answered, by an answer that fits it
pub record IsAnswered (c : Call) (a : Answer) : Type 0 where
  pub came : is_halt a ≡ false
  pub fits : fitting c a ≡ a

-- by these events the plan goes on to another
abbrev pub Goes : {X : Type 0} → Plan X → List Event → Plan X → Type 0
Goes p [] q = p ≡ q
Goes (ask c go) (e ∷ es) q = (e.call ≡ c) × IsAnswered c e.answer × Goes (go e.answer) es q
Goes _ (e ∷ es) q = ⊥

-- between two records of a world, the plan went on to another
pub record RanBetween {X : Type 0} (before after : Option (List Event)) (plan rest : Plan X) : Type 0 where
  pub trace : List Event
  pub recorded : after ≡ extend before trace
  pub goes : Goes plan trace rest

-- between two records of a world, the plan went on to a call that was not answered
pub record Halted {X : Type 0} (before after : Option (List Event)) (plan : Plan X) : Type 0 where
  pub trace : List Event
  pub call : Call
  pub go : Answer → Plan X
  pub recorded : after ≡ extend before (trace ++ event call (refused Halt) ∷ [])
  pub goes : Goes plan trace (ask call go)
