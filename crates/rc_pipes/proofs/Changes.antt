-- One turn of the search for a directory, and the words of `cd`.
use Rattle.std.proofs.Common.{◌≡◌, ℕ, ◌<◌, ◌≤◌, ◌+◌, Bool, true, false, cond, List, [], ◌∷◌, length, map, drop, get_or, Option, Ok, Err, ap, ◌∙◌, sym, refl, drop-cons, add-one, arith}
use Rattle.std.specs.Prelude.{codes, Result as Outcome}
use Rattle.rc_text.specs.declared.texts.Text.{Text}
use Rattle.rc_text.specs.Texts.{text_bytes}
use Rattle.rc_model.specs.Run.Acts.{set_status}
use Rattle.rc_model.specs.Run.Builtins.{Finished, finished, cd, dirs_of, first_dir, first_member}
use Rattle.rc_model.specs.Run.Calls.{Event, change_dir, as_done}
use Rattle.rc_model.specs.Run.Plans.{Plan, done_with, asks, RanBetween}
use Rattle.rc_model.specs.Run.Shell.{ShellResult, Next, Shell, leaves}
use Rattle.rc_model.specs.Run.State.{State, value_of, with_status}
use Rattle.rc_world.specs.Comes.{Left, Comes}
use Rattle.rc_world.specs.declared.starts.Stop.{Stop}
use Rattle.rc_world.proofs.Joins.{left_asked, ran_answered}
use Rattle.rc_world.proofs.Shells.{left_under}
use Rattle.law_plans.proofs.Runs.{ran_next, ran_none}

-- the texts that are left: this one and those after it
pub texts_left : {X : Type 0} (f : X → List ℕ) (xs : List X) (i : ℕ) (x : X) → i < length xs → x ≡ get_or xs i x → map f (drop i xs) ≡ f x ∷ map f (drop (i + 1) xs)
texts_left f xs i x lt is =
    ap (map f) (drop-cons xs i x lt)
    ∙ ap (λ n. f (get_or xs i x) ∷ map f (drop n xs)) (sym (add-one i))
    ∙ ap (λ y. f y ∷ map f (drop (i + 1) xs)) (sym is)

module _ (dir : List ℕ) (dirs : List (List ℕ)) (s : State) where
  -- what follows the call
  abbrev next : Bool → Plan (ShellResult (Unit {0}))
  next b = (cond b (set_status []) (first_dir dirs)) s

  pub ran_changed : (a b : Option (List Event)) → RanBetween a b (asks (change_dir dir) as_done) (done_with true) → RanBetween a b (first_dir (dir ∷ dirs) s) (done_with (Next tt (with_status s [])))
  ran_changed a b f = ran_answered a b b (change_dir dir) as_done true next _ f (ran_none b _)

  pub ran_refused : (a b : Option (List Event)) → RanBetween a b (asks (change_dir dir) as_done) (done_with false) → RanBetween a b (first_dir (dir ∷ dirs) s) (first_dir dirs s)
  ran_refused a b f = ran_answered a b b (change_dir dir) as_done false next _ f (ran_none b _)

  pub left_at_change : (a b : Option (List Event)) (stop : Stop) → Left a b (asks (change_dir dir) as_done) stop → Left a b (first_dir (dir ∷ dirs) s) stop
  left_at_change a b stop f = left_asked a b stop (change_dir dir) as_done next f

-- a command that is over once this is done
pub comes_finished : (a b : Option (List Event)) (m : Shell (Unit {0})) (s t : State) (result : Outcome (Unit {0}) Stop) →
    Comes a b (m s) (λ x. Next x t) result → Comes a b (finished m s) (λ x. Next Finished t) result
comes_finished a b m s t (Ok x) f = ran_next a b b (m s) x t (λ y u. done_with (Next Finished u)) leaves _ f (ran_none b _)
comes_finished a b m s t (Err stop) f = left_under a b stop (m s) (λ y u. done_with (Next Finished u)) leaves f

-- ** `cd` by the count of its words

pub cd_home : (ws : List (Text)) (s : State) → length ws < 1 → cd (map text_bytes ws) s ≡ finished (first_dir (dirs_of s (first_member (value_of s (codes "home"))))) s
cd_home [] s h = refl
cd_home (w ∷ ws) s h = absurd (omega (arith, h))

pub cd_one : (ws : List (Text)) (w : Text) (s : State) → 1 ≤ length ws → length ws < 2 → w ≡ get_or ws 0 w →
    cd (map text_bytes ws) s ≡ finished (first_dir (dirs_of s (text_bytes w ∷ []))) s
cd_one [] w s h k is = absurd (omega (arith, h))
cd_one (v ∷ []) w s h k is = ap (λ x. finished (first_dir (dirs_of s (text_bytes x ∷ []))) s) (sym is)
cd_one (v ∷ u ∷ ws) w s h k is = absurd (omega (arith, k))
