-- Runs of plans between two records of a world: how they join.
use Rattle.std.proofs.Common.{◌≡◌, refl, ◌∙◌, ap, List, [], ◌∷◌, ◌++◌, ℕ, Option}
use Rattle.std.specs.Prelude.{true, if◌then◌else◌}
use Rattle.rc_model.specs.Run.Calls.{Call, Answer, Event, event, extend, recorded_by, was_made, refused}
use Rattle.rc_model.specs.declared.call.Fault.TheVariants.{Halt}
use Rattle.rc_model.specs.Run.Plans.{Plan, done_with, ask, and_then, IsAnswered, RanBetween, Halted}
use Rattle.rc_model.specs.Run.State.{State}
use Rattle.rc_model.specs.Run.Shell.{ShellResult, Next, Exit, under}
use Rattle.law_plans.proofs.Goes.{goes_append, goes_then, goes_under}
use Rattle.law_plans.proofs.Recordings.{extend_nil, recorded_append, recorded_further}

-- nothing was called
pub ran_none : {X : Type 0} (a : Option (List Event)) (p : Plan X) → RanBetween a a p p
ran_none a p = record { trace = []; recorded = extend_nil a; goes = refl }

-- one call was made and answered
pub ran_call : {X : Type 0} (a b : Option (List Event)) (call : Call) (x : Answer) (go : Answer → Plan X) →
    was_made x ≡ true → IsAnswered call x → b ≡ extend a (recorded_by call x) → RanBetween a b (ask call go) (go x)
ran_call a b call x go made answered h =
    record {
      trace = event call x ∷ [];
      recorded = h ∙ ap (λ m. extend a (if m then event call x ∷ [] else [])) made;
      goes = (refl, answered, refl);
    }

-- a call was not answered
pub halted_call : {X : Type 0} (a b : Option (List Event)) (call : Call) (go : Answer → Plan X) →
    b ≡ extend a (event call (refused Halt) ∷ []) → Halted a b (ask call go)
halted_call a b call go h = record { trace = []; call = call; go = go; recorded = h; goes = refl }

-- ** one run after another

pub ran_join : {X : Type 0} (a b c : Option (List Event)) (p q r : Plan X) → RanBetween a b p q → RanBetween b c q r → RanBetween a c p r
ran_join a b c p q r f g =
    record {
      trace = f.trace ++ g.trace;
      recorded = recorded_append a b c f.trace g.trace f.recorded g.recorded;
      goes = goes_append p f.trace q g.trace r f.goes g.goes;
    }

pub halted_join : {X : Type 0} (a b c : Option (List Event)) (p q : Plan X) → RanBetween a b p q → Halted b c q → Halted a c p
halted_join a b c p q f g =
    record {
      trace = f.trace ++ g.trace;
      call = g.call;
      go = g.go;
      recorded = recorded_further a b c f.trace g.trace (event g.call (refused Halt)) f.recorded g.recorded;
      goes = goes_append p f.trace q g.trace (ask g.call g.go) f.goes g.goes;
    }

-- ** the first of two plans

pub ran_then : {X Y : Type 0} (a b : Option (List Event)) (p q : Plan X) (next : X → Plan Y) → RanBetween a b p q → RanBetween a b (and_then p next) (and_then q next)
ran_then a b p q next f = record { trace = f.trace; recorded = f.recorded; goes = goes_then p f.trace q next f.goes }

pub halted_then : {X Y : Type 0} (a b : Option (List Event)) (p : Plan X) (next : X → Plan Y) → Halted a b p → Halted a b (and_then p next)
halted_then a b p next f =
    record {
      trace = f.trace;
      call = f.call;
      go = λ x. and_then (f.go x) next;
      recorded = f.recorded;
      goes = goes_then p f.trace (ask f.call f.go) next f.goes;
    }

-- a plan ended, and the one that follows went on
pub ran_bind : {X Y : Type 0} (a b c : Option (List Event)) (p : Plan X) (x : X) (next : X → Plan Y) (q : Plan Y) →
    RanBetween a b p (done_with x) → RanBetween b c (next x) q → RanBetween a c (and_then p next) q
ran_bind a b c p x next q f g = ran_join a b c (and_then p next) (next x) q (ran_then a b p (done_with x) next f) g

-- ** a piece of the shell with what follows it

pub ran_under : {A X : Type 0} (a b : Option (List Event)) (p q : Plan (ShellResult A)) (go : A → State → Plan X) (leave : State → List ℕ → Plan X) →
    RanBetween a b p q → RanBetween a b (under p go leave) (under q go leave)
ran_under a b p q go leave f = record { trace = f.trace; recorded = f.recorded; goes = goes_under p f.trace q go leave f.goes }

pub halted_under : {A X : Type 0} (a b : Option (List Event)) (p : Plan (ShellResult A)) (go : A → State → Plan X) (leave : State → List ℕ → Plan X) →
    Halted a b p → Halted a b (under p go leave)
halted_under a b p go leave f =
    record {
      trace = f.trace;
      call = f.call;
      go = λ x. under (f.go x) go leave;
      recorded = f.recorded;
      goes = goes_under p f.trace (ask f.call f.go) go leave f.goes;
    }

-- the piece came to a next state, and what follows went on
pub ran_next : {A X : Type 0} (a b c : Option (List Event)) (p : Plan (ShellResult A)) (x : A) (s : State)
    (go : A → State → Plan X) (leave : State → List ℕ → Plan X) (q : Plan X) →
    RanBetween a b p (done_with (Next x s)) → RanBetween b c (go x s) q → RanBetween a c (under p go leave) q
ran_next a b c p x s go leave q f g = ran_join a b c (under p go leave) (go x s) q (ran_under a b p (done_with (Next x s)) go leave f) g

-- the piece ended the shell, and what follows its end went on
pub ran_exit : {A X : Type 0} (a b c : Option (List Event)) (p : Plan (ShellResult A)) (s : State) (owed : List ℕ)
    (go : A → State → Plan X) (leave : State → List ℕ → Plan X) (q : Plan X) →
    RanBetween a b p (done_with (Exit s owed)) → RanBetween b c (leave s owed) q → RanBetween a c (under p go leave) q
ran_exit a b c p s owed go leave q f g = ran_join a b c (under p go leave) (leave s owed) q (ran_under a b p (done_with (Exit s owed)) go leave f) g
