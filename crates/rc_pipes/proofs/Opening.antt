-- The search for a file that opens, path by path.
use Rattle.std.proofs.Common.{List, ◌∷◌, ℕ, Option, Some, None, Ok, Err}
use Rattle.std.specs.Prelude.{Result as Outcome}
use Rattle.rc_model.specs.Run.Builtins.{open_first, opened_or}
use Rattle.rc_model.specs.Run.Calls.{Event, open_file, as_file}
use Rattle.rc_model.specs.Run.Plans.{Plan, done_with, asks, RanBetween}
use Rattle.rc_model.specs.Run.Shell.{ShellResult, Shell, Next, ◌>>=◌}
use Rattle.rc_model.specs.Run.State.{State}
use Rattle.rc_model.specs.declared.call.Mode.TheVariants.{Read}
use Rattle.rc_world.specs.Comes.{Comes, GoesOn, Left}
use Rattle.rc_world.specs.declared.starts.Stop.{Stop}
use Rattle.rc_world.proofs.Joins.{left_asked, ran_answered}
use Rattle.rc_world.proofs.Shells.{left_do, ran_do}
use Rattle.law_plans.proofs.Runs.{ran_none}

module _ (path : List ℕ) (paths : List (List ℕ)) (s : State) (a b : Option (List Event)) where
  -- what follows the call
  abbrev next : Option ℕ → Plan (ShellResult (Option ℕ))
  next file = opened_or (open_first paths) file s

  pub ran_opened : (n : ℕ) → RanBetween a b (asks (open_file path Read) as_file) (done_with (Some n)) →
      RanBetween a b (open_first (path ∷ paths) s) (done_with (Next (Some n) s))
  ran_opened n f = ran_answered a b b (open_file path Read) as_file (Some n) next _ f (ran_none b _)

  pub ran_unopened : RanBetween a b (asks (open_file path Read) as_file) (done_with None) →
      RanBetween a b (open_first (path ∷ paths) s) (open_first paths s)
  ran_unopened f = ran_answered a b b (open_file path Read) as_file None next _ f (ran_none b _)

  pub left_opening : (stop : Stop) → Left a b (asks (open_file path Read) as_file) stop →
      Left a b (open_first (path ∷ paths) s) stop
  left_opening stop f = left_asked a b stop (open_file path Read) as_file next f

-- an act that leaves the state as it is, and what follows its value
pub goes_on : {A B T : Type 0} (a b : Option (List Event)) (s : State) (m : Shell A) (f : A → Shell B) (view : T → A) (result : Outcome T Stop) →
    Comes a b (m s) (λ v. Next (view v) s) result → GoesOn a b ((m >>= f) s) (λ v. f (view v) s) result
goes_on a b s m f view (Ok v) h = ran_do {s = s} {t = s} m f h (ran_none b _)
goes_on a b s m f view (Err stop) h = left_do {s = s} m f h
