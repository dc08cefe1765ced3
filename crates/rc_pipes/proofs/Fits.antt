-- The start of a child, by whether its launch can be made.
use Rattle.std.proofs.Common.{◌≡◌, ℕ, Bool, true, false, cond, List, Option, ap}
use Rattle.std.specs.Prelude.{codes}
use Rattle.rc_model.specs.Handed.Image.{is_fit}
use Rattle.rc_model.specs.Run.Acts.{NoChild, as_started, ask_start, start_if_fit}
use Rattle.rc_model.specs.Run.Calls.{Event, Launch, start, as_child}
use Rattle.rc_model.specs.Run.Plans.{done_with, asks, RanBetween}
use Rattle.rc_model.specs.Run.Shell.{Next, pure}
use Rattle.rc_model.specs.Run.State.{State}
use Rattle.rc_world.specs.Comes.{Left}
use Rattle.rc_world.specs.declared.starts.Stop.{Stop}
use Rattle.rc_world.proofs.Joins.{left_asked, ran_answered}
use Rattle.law_plans.proofs.Runs.{ran_none}

started_by : (l : Launch) (s : State) (b : Bool) → is_fit l ≡ b → start_if_fit l s ≡ (cond b (ask_start l) (pure (NoChild (codes "too large")))) s
started_by l s b h = ap (λ x. (cond x (ask_start l) (pure (NoChild (codes "too large")))) s) h

pub not_fit : (l : Launch) (s : State) → is_fit l ≡ false → start_if_fit l s ≡ done_with (Next (NoChild (codes "too large")) s)
not_fit l s h = started_by l s false h

pub fit : (l : Launch) (s : State) → is_fit l ≡ true → start_if_fit l s ≡ ask_start l s
fit l s h = started_by l s true h

pub begun_by : (a b : Option (List Event)) (l : Launch) (s : State) (child : Option ℕ) → RanBetween a b (asks (start l) as_child) (done_with child) → RanBetween a b (ask_start l s) (done_with (Next (as_started child) s))
begun_by a b l s child f = ran_answered a b b (start l) as_child child (λ n. done_with (Next (as_started n) s)) _ f (ran_none b _)

pub no_child : (a b : Option (List Event)) (stop : Stop) (l : Launch) (s : State) → Left a b (asks (start l) as_child) stop → Left a b (ask_start l s) stop
no_child a b stop l s f = left_asked a b stop (start l) as_child (λ n. done_with (Next (as_started n) s)) f
