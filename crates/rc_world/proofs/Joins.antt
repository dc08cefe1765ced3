-- How code joins that came to the value of a plan, or left it.
use Rattle.std.proofs.Common.{◌≡◌, sym, subst, List, [], ◌∷◌, Option, Result, Ok, Err, refl}
use Rattle.std.specs.Result.{IsErrAnd}
use Rattle.rc_model.specs.Run.Calls.{Call, Answer, Event, event, extend, refused}
use Rattle.rc_model.specs.declared.call.Fault.TheVariants.{Halt as halt}
use Rattle.rc_model.specs.Run.Plans.{Plan, done_with, ask, asks, and_then, RanBetween}
use Rattle.law_plans.proofs.Runs.{ran_none, halted_call, ran_join, halted_join, ran_then, halted_then, ran_bind}
use Rattle.rc_world.specs.Comes.{Left, for_memory, by_halt, GoesOn, Comes}
use Rattle.rc_world.specs.declared.starts.Stop.{Stop}
use Rattle.rc_world.specs.declared.starts.Stop.TheVariants.{NoMemory, Halt}

-- ** left at once

-- before any call
pub left_memory : {X : Type 0} (a : Option (List Event)) (p : Plan X) → Left a a p NoMemory
left_memory a p = for_memory p (ran_none a p)

-- between two calls
pub left_here : {X : Type 0} (a b : Option (List Event)) (p q : Plan X) → RanBetween a b p q → Left a b p NoMemory
left_here a b p q f = for_memory q f

-- a call was not made
pub left_no_memory : {X : Type 0} (a b : Option (List Event)) (p : Plan X) → b ≡ extend a [] → Left a b p NoMemory
left_no_memory a b p h = for_memory p (record { trace = []; recorded = h; goes = refl })

-- a call was not answered
pub left_halt : {X : Type 0} (a b : Option (List Event)) (call : Call) (go : Answer → Plan X) →
    b ≡ extend a (event call (refused halt) ∷ []) → Left a b (ask call go) Halt
left_halt a b call go h = by_halt (halted_call a b call go h)

-- a `?` hands on why
pub given_up : {X T : Type 0} (a b : Option (List Event)) (plan : Plan X) (rest : T → Plan X) (result : Result T Stop) (stop : Stop) →
    IsErrAnd result (λ s. s ≡ stop) → Left a b plan stop → GoesOn a b plan rest result
given_up a b plan rest (Err s) stop h k = subst (λ s. Left a b plan s) (sym h) k
given_up a b plan rest (Ok x) stop h k = absurd h

-- and so it does where the plan was to come to a value
pub passed_up : {X T : Type 0} (a b : Option (List Event)) (plan : Plan X) (view : T → X) (result : Result T Stop) (stop : Stop) →
    IsErrAnd result (λ s. s ≡ stop) → Left a b plan stop → Comes a b plan view result
passed_up a b plan view result stop h k = given_up a b plan (λ v. done_with (view v)) result stop h k

-- ** after a run

pub left_join : {X : Type 0} (a b c : Option (List Event)) (stop : Stop) (p q : Plan X) → RanBetween a b p q → Left b c q stop → Left a c p stop
left_join a b c NoMemory p q f (for_memory r g) = for_memory r (ran_join a b c p q r f g)
left_join a b c Halt p q f (by_halt g) = by_halt (halted_join a b c p q f g)

pub comes_join : {X T : Type 0} (a b c : Option (List Event)) (p q : Plan X) (view : T → X) (result : Result T Stop) →
    RanBetween a b p q → Comes b c q view result → Comes a c p view result
comes_join a b c p q view (Ok x) f g = ran_join a b c p q (done_with (view x)) f g
comes_join a b c p q view (Err stop) f g = left_join a b c stop p q f g

-- a plan that is another one
pub ran_as : {X : Type 0} (a b : Option (List Event)) (p q r : Plan X) → p ≡ q → RanBetween a b q r → RanBetween a b p r
ran_as a b p q r e f = subst (λ t. RanBetween a b t r) (sym e) f

pub left_as : {X : Type 0} (a b : Option (List Event)) (p q : Plan X) (stop : Stop) → p ≡ q → Left a b q stop → Left a b p stop
left_as a b p q stop e f = subst (λ t. Left a b t stop) (sym e) f

pub comes_as : {X T : Type 0} (a b : Option (List Event)) (p q : Plan X) (view : T → X) (result : Result T Stop) →
    p ≡ q → Comes a b q view result → Comes a b p view result
comes_as a b p q view result e f = subst (λ t. Comes a b t view result) (sym e) f

-- ** one plan, and then another by its value

-- the first was left
pub left_bind : {X Y : Type 0} (a b : Option (List Event)) (stop : Stop) (p : Plan X) (next : X → Plan Y) →
    Left a b p stop → Left a b (and_then p next) stop
left_bind a b NoMemory p next (for_memory q f) = for_memory (and_then q next) (ran_then a b p q next f)
left_bind a b Halt p next (by_halt f) = by_halt (halted_then a b p next f)

-- the first ended, and the second was left
pub left_after : {X Y : Type 0} (a b c : Option (List Event)) (stop : Stop) (p : Plan X) (x : X) (next : X → Plan Y) →
    RanBetween a b p (done_with x) → Left b c (next x) stop → Left a c (and_then p next) stop
left_after a b c stop p x next f g = left_join a b c stop (and_then p next) (next x) (ran_then a b p (done_with x) next f) g

-- ** one call, and what follows its answer as that is taken

-- the call was answered, and what follows went on
pub ran_answered : {V X : Type 0} (a b c : Option (List Event)) (call : Call) (taken : Answer → V) (v : V) (next : V → Plan X) (q : Plan X) →
    RanBetween a b (asks call taken) (done_with v) → RanBetween b c (next v) q → RanBetween a c (ask call (λ x. next (taken x))) q
ran_answered a b c call taken v next q f g = ran_bind a b c (asks call taken) v next q f g

-- the call was not answered, or not even made
pub left_asked : {V X : Type 0} (a b : Option (List Event)) (stop : Stop) (call : Call) (taken : Answer → V) (next : V → Plan X) →
    Left a b (asks call taken) stop → Left a b (ask call (λ x. next (taken x))) stop
left_asked a b stop call taken next f = left_bind a b stop (asks call taken) next f

-- the call was answered, and what follows was left
pub left_answered : {V X : Type 0} (a b c : Option (List Event)) (stop : Stop) (call : Call) (taken : Answer → V) (v : V) (next : V → Plan X) →
    RanBetween a b (asks call taken) (done_with v) → Left b c (next v) stop → Left a c (ask call (λ x. next (taken x))) stop
left_answered a b c stop call taken v next f g = left_after a b c stop (asks call taken) v next f g

-- the call was answered, and what follows came to its value or was left
pub comes_answered : {V X T : Type 0} (a b c : Option (List Event)) (call : Call) (taken : Answer → V) (v : V) (next : V → Plan X) (view : T → X) (result : Result T Stop) →
    RanBetween a b (asks call taken) (done_with v) → Comes b c (next v) view result → Comes a c (ask call (λ x. next (taken x))) view result
comes_answered a b c call taken v next view (Ok x) f g = ran_answered a b c call taken v next (done_with (view x)) f g
comes_answered a b c call taken v next view (Err stop) f g = left_answered a b c stop call taken v next f g
