-- Waits for children in the background, one after the other.
use Rattle.std.proofs.Common.{◌≡◌, ℕ, ◌+◌, ◌<◌, ◌≤◌, List, [], ◌∷◌, length, drop, get_or, Option, Ok, Err, Bool, true, refl, ap, subst, arith}
use Rattle.std.proofs.lemmas.Bool.Decides.{nat_tests}
use Rattle.std.specs.Prelude.{◌==◌, ◌||◌, if◌then◌else◌, Result as Outcome}
use Rattle.std.specs.List.{list_any}
use Rattle.rc_model.specs.declared.call.ChildNo.{ChildNo}
use Rattle.rc_model.specs.Run.Builtins.{Called, Finished, finished, wait_child, wait_all, wait_for}
use Rattle.rc_model.specs.Run.Calls.{Event}
use Rattle.rc_model.specs.Run.Plans.{done_with, RanBetween}
use Rattle.rc_model.specs.Run.Shell.{Shell, Next, pure, leaves}
use Rattle.rc_model.specs.Run.Acts.{waited, set_status}
use Rattle.rc_model.specs.Run.State.{State, drop_child, with_status, without_child}
use Rattle.law_plans.proofs.Runs.{ran_none, ran_join, ran_next}
use Rattle.rc_scope.specs.Children.{child_numbers}
use Rattle.rc_world.specs.Comes.{Comes, Left}
use Rattle.rc_world.specs.declared.starts.Stop.{Stop}
use Rattle.rc_world.proofs.Joins.{left_join}
use Rattle.rc_world.proofs.Shells.{left_do, left_under, ran_do}
use Rattle.rc_pipes.specs.Jobs.{with_jobs}
use Rattle.rc_pipes.proofs.Steps.{ran_both, left_first}
use Rattle.rc_pipes.proofs.Rows.{past, at_place}

-- the child of this number is among these
pub any_number : (n : ℕ) (xs : List ChildNo) → list_any (λ child. child.0 == n) xs ≡ list_any (λ m. m == n) (child_numbers xs)
any_number n [] = refl
any_number n (x ∷ xs) = ap (λ rest. (x.0 == n) || rest) (any_number n xs)

-- the command is over once this is done
pub finishes : (a b : Option (List Event)) (s t : State) (m : Shell (Unit {0})) (result : Outcome (Unit {0}) Stop) →
    Comes a b (m s) (λ v. Next v t) result → Comes a b (finished m s) (λ v. Next Finished t) result
finishes a b s t m (Ok v) f = ran_next a b b (m s) v t (λ x. pure Finished) leaves _ f (ran_none b _)
finishes a b s t m (Err stop) f = left_under a b stop (m s) (λ x. pure Finished) leaves f

-- the first of these children is taken out of the list
first_dropped : (s : State) (status : List ℕ) (n : ℕ) (ns : List ℕ) → drop_child (with_jobs s status (n ∷ ns)) n ≡ with_jobs s status ns
first_dropped s status n ns =
    let same : (n == n) ≡ true = grind (arith, nat_tests) in
    ap (λ (is_it : Bool). with_jobs s status (if is_it then ns else n ∷ without_child n ns)) same

-- all children in the background are waited for, and those before this place were
module _ (s : State) (a b : Option (List Event)) (xs : List ChildNo) (i : ℕ) (status : List ℕ)
    (h : RanBetween a b (wait_all (child_numbers xs) (with_jobs s [] (child_numbers xs)))
    (wait_all (child_numbers (drop i xs)) (with_jobs s status (child_numbers (drop i xs))))) where
  module _ (d : ChildNo) (c : Option (List Event)) (lt : i < length xs) where
    abbrev x : ChildNo
    x = get_or xs i d

    abbrev rest : List ℕ
    rest = child_numbers (drop (i + 1) xs)

    here : RanBetween a b (wait_all (child_numbers xs) (with_jobs s [] (child_numbers xs))) (wait_all (x.0 ∷ rest) (with_jobs s status (x.0 ∷ rest)))
    here =
        let P : List ChildNo → Type 0 = λ left. RanBetween a b (wait_all (child_numbers xs) (with_jobs s [] (child_numbers xs)))
        (wait_all (child_numbers left) (with_jobs s status (child_numbers left))) in
        subst P (at_place xs i d lt) h

    -- one more was waited for
    pub waited_more : (ended : List ℕ) → ((t : State) → RanBetween b c (waited x.0 t) (done_with (Next ended t))) →
        RanBetween a c (wait_all (child_numbers xs) (with_jobs s [] (child_numbers xs))) (wait_all rest (with_jobs s ended rest))
    waited_more ended f =
        let t = with_jobs s status (x.0 ∷ rest) in
        let u = drop_child t x.0 in
        let P : State → Type 0 = λ v. RanBetween b c (wait_child x.0 t) (done_with (Next tt (with_status v ended))) in
        let done = subst P (first_dropped s status x.0 rest) (ran_do {s = u} {t = u} (waited x.0) (λ text. set_status text) (f u) (ran_none c _)) in
        ran_join a b c _ _ _ here (ran_both b c c t (with_jobs s ended rest) (wait_child x.0) (wait_all rest) _ done (ran_none c _))

    -- its wait was left
    pub left_waiting : (stop : Stop) → ((t : State) → Left b c (waited x.0 t) stop) →
        Left a c (wait_all (child_numbers xs) (with_jobs s [] (child_numbers xs))) stop
    left_waiting stop f =
        let t = with_jobs s status (x.0 ∷ rest) in
        let u = drop_child t x.0 in
        left_join a b c stop _ _ here
        (left_first b c c t t (wait_child x.0) (wait_all rest) stop (left_do {s = u} (waited x.0) (λ text. set_status text) (f u)))

  -- all were waited for
  pub waited_all : length xs ≤ i → RanBetween a b (wait_all (child_numbers xs) (with_jobs s [] (child_numbers xs))) (done_with (Next tt (with_jobs s status [])))
  waited_all le =
      let P : List ChildNo → Type 0 = λ left. RanBetween a b (wait_all (child_numbers xs) (with_jobs s [] (child_numbers xs)))
      (wait_all (child_numbers left) (with_jobs s status (child_numbers left))) in
      subst P (past xs i le) h

-- all in the background were waited for, or the waits were left
module _ (a b : Option (List Event)) (s : State) where
  abbrev every : Shell Called
  every = wait_for []

  pub every_waited : (status : List ℕ) → RanBetween a b (wait_all s.background (with_jobs s [] s.background)) (done_with (Next tt (with_jobs s status []))) →
      RanBetween a b (every s) (done_with (Next Finished (with_jobs s status [])))
  every_waited status f =
      ran_next a b b (wait_all s.background (with_status s [])) tt (with_jobs s status []) (λ x. pure Finished) leaves _ f (ran_none b _)

  pub every_left : (stop : Stop) → Left a b (wait_all s.background (with_jobs s [] s.background)) stop → Left a b (every s) stop
  every_left stop f = left_under a b stop (wait_all s.background (with_status s [])) (λ x. pure Finished) leaves f
