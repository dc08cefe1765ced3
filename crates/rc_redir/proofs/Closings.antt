-- The close of a file that may be there, before what follows.
use Rattle.std.proofs.Common.{ℕ, List, Option, Some, None, Bool}
use Rattle.rc_model.specs.Run.Calls.{Event, close, as_done}
use Rattle.rc_model.specs.Run.Plans.{Plan, done_with, asks, RanBetween}
use Rattle.rc_model.specs.Run.Acts.{closing}
use Rattle.rc_world.specs.Comes.{Left}
use Rattle.rc_world.specs.declared.starts.Stop.{Stop}
use Rattle.rc_world.proofs.Joins.{ran_answered, left_asked, left_bind}
use Rattle.law_plans.proofs.Runs.{ran_none, ran_then}

-- nothing follows
abbrev pub nothing : Plan (Unit {0})
nothing = done_with tt

-- the answer does not matter
pub ran_closed : (a b : Option (List Event)) (file : ℕ) (answer : Bool) → RanBetween a b (asks (close file) as_done) (done_with answer) →
    RanBetween a b (closing (Some file) nothing) nothing
ran_closed a b file answer f = ran_answered a b b (close file) as_done answer (λ d. nothing) nothing f (ran_none b nothing)

pub left_closing : (a b : Option (List Event)) (stop : Stop) (file : ℕ) → Left a b (asks (close file) as_done) stop →
    Left a b (closing (Some file) nothing) stop
left_closing a b stop file f = left_asked a b stop (close file) as_done (λ d. nothing) f

-- what follows a close goes on after it
pub ran_closing : {X : Type 0} (a b : Option (List Event)) (file : Option ℕ) (plan : Plan X) →
    RanBetween a b (closing file nothing) nothing → RanBetween a b (closing file plan) plan
ran_closing a b None plan f = ran_then a b nothing nothing (λ (x : Unit {0}). plan) f
ran_closing a b (Some h) plan f = ran_then a b (closing (Some h) nothing) nothing (λ (x : Unit {0}). plan) f

-- and is left where the close is
pub left_at_close : {X : Type 0} (a b : Option (List Event)) (stop : Stop) (file : Option ℕ) (plan : Plan X) →
    Left a b (closing file nothing) stop → Left a b (closing file plan) stop
left_at_close a b stop None plan f = left_bind a b stop nothing (λ (x : Unit {0}). plan) f
left_at_close a b stop (Some h) plan f = left_bind a b stop (closing (Some h) nothing) (λ (x : Unit {0}). plan) f

pub ruleset closed = (ran_closed, left_closing)
