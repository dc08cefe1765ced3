-- Waits for several children, one after the other.
use Rattle.std.proofs.Common.{◌≡◌, ℕ, ◌+◌, ◌<◌, ◌≤◌, List, [], ◌∷◌, ◌++◌, length, map, drop, get_or, Option, sym, ap, subst, append_assoc}
use Rattle.std.proofs.lemmas.List.{append-nil}
use Rattle.rc_model.specs.declared.call.ChildNo.{ChildNo}
use Rattle.rc_model.specs.Run.Calls.{Event}
use Rattle.rc_model.specs.Run.Plans.{Plan, done_with, RanBetween}
use Rattle.rc_model.specs.Run.Shell.{ShellResult, Next, pure, ◌>>=◌}
use Rattle.rc_model.specs.Run.State.{State}
use Rattle.rc_model.specs.Run.Acts.{waited, wait_each}
use Rattle.law_plans.proofs.Runs.{ran_none}
use Rattle.rc_world.specs.Comes.{Left}
use Rattle.rc_world.specs.declared.starts.Stop.{Stop}
use Rattle.rc_world.specs.declared.starts.Stop.TheVariants.{NoMemory}
use Rattle.rc_world.proofs.Joins.{left_memory}
use Rattle.rc_world.proofs.Shells.{ran_do, left_do, left_done}
use Rattle.rc_pipes.proofs.Rows
use Rattle.rc_pipes.proofs.Rows.{past}

-- after the waits so far, what the waits that are left come to is what all of them come to
pub record HasWaited (s : State) (a b : Option (List Event)) (all left : List ℕ) (statuses : List (List ℕ)) : Type 0 where
  pub ends : (c : Option (List Event)) (others : List (List ℕ)) →
      RanBetween b c (wait_each left s) (done_with (Next others s)) → RanBetween a c (wait_each all s) (done_with (Next (statuses ++ others) s))
  pub stops : (c : Option (List Event)) (stop : Stop) → Left b c (wait_each left s) stop → Left a c (wait_each all s) stop

pub none_yet : (s : State) (a : Option (List Event)) (all : List ℕ) → HasWaited s a a all all []
none_yet s a all = record { ends = λ c others f. f; stops = λ c stop f. f }

module _ (s : State) (a b : Option (List Event)) (all : List ℕ) (n : ℕ) (left : List ℕ) (statuses : List (List ℕ)) where
  -- what follows the first wait
  abbrev next : List ℕ → State → Plan (ShellResult (List (List ℕ)))
  next first = wait_each left >>= (λ others. pure (first ∷ others))

  pub one_more : (c : Option (List Event)) (status : List ℕ) → HasWaited s a b all (n ∷ left) statuses →
      RanBetween b c (waited n s) (done_with (Next status s)) → HasWaited s a c all left (statuses ++ status ∷ [])
  one_more c status h f =
      record {
        ends = λ d others g.
            let P : List (List ℕ) → Type 0 = λ all_statuses. RanBetween a d (wait_each all s) (done_with (Next all_statuses s)) in
            subst P (sym (append_assoc statuses (status ∷ []) others))
            (h.ends d (status ∷ others) (ran_do (waited n) next f (ran_do (wait_each left) (λ rest. pure (status ∷ rest)) g (ran_none d _))));
        stops = λ d stop g. h.stops d stop (left_done (waited n) next f (left_do (wait_each left) (λ rest. pure (status ∷ rest)) g));
      }

  pub left_at_wait : (c : Option (List Event)) (stop : Stop) → HasWaited s a b all (n ∷ left) statuses →
      Left b c (waited n s) stop → Left a c (wait_each all s) stop
  left_at_wait c stop h f = h.stops c stop (left_do (waited n) next f)

-- all were waited for
pub all_waited : (s : State) (a b : Option (List Event)) (all : List ℕ) (statuses : List (List ℕ)) → HasWaited s a b all [] statuses →
    RanBetween a b (wait_each all s) (done_with (Next (statuses ++ []) s))
all_waited s a b all statuses h = h.ends b [] (ran_none b _)

-- nothing more was called, and memory was refused
pub left_between : (s : State) (a b : Option (List Event)) (all left : List ℕ) (statuses : List (List ℕ)) → HasWaited s a b all left statuses →
    Left a b (wait_each all s) NoMemory
left_between s a b all left statuses h = h.stops b NoMemory (left_memory b (wait_each left s))

-- ** the children of a row, one after the other

abbrev number : ChildNo → ℕ
number child = child.0

left_at_place : (xs : List ChildNo) (i : ℕ) (d : ChildNo) → i < length xs →
    map number (drop i xs) ≡ number (get_or xs i d) ∷ map number (drop (i + 1) xs)
left_at_place xs i d lt = ap (map number) (Rows.at_place xs i d lt)

module _ (s : State) (a b : Option (List Event)) (all : List ℕ) (xs : List ChildNo) (i : ℕ) (statuses : List (List ℕ)) where
  at_place : (d : ChildNo) → i < length xs → HasWaited s a b all (map number (drop i xs)) statuses →
      HasWaited s a b all (number (get_or xs i d) ∷ map number (drop (i + 1) xs)) statuses
  at_place d lt h = let P : List ℕ → Type 0 = λ left. HasWaited s a b all left statuses in subst P (left_at_place xs i d lt) h

  pub next_waited : (c : Option (List Event)) (d : ChildNo) (status : List ℕ) → i < length xs →
      HasWaited s a b all (map number (drop i xs)) statuses → RanBetween b c (waited (get_or xs i d).0 s) (done_with (Next status s)) →
      HasWaited s a c all (map number (drop (i + 1) xs)) (statuses ++ status ∷ [])
  next_waited c d status lt h f =
      one_more s a b all (number (get_or xs i d)) (map number (drop (i + 1) xs)) statuses c status (at_place d lt h) f

  pub left_waiting : (c : Option (List Event)) (d : ChildNo) (stop : Stop) → i < length xs →
      HasWaited s a b all (map number (drop i xs)) statuses → Left b c (waited (get_or xs i d).0 s) stop → Left a c (wait_each all s) stop
  left_waiting c d stop lt h f =
      left_at_wait s a b all (number (get_or xs i d)) (map number (drop (i + 1) xs)) statuses c stop (at_place d lt h) f

  pub has_waited : length xs ≤ i → HasWaited s a b all (map number (drop i xs)) statuses → RanBetween a b (wait_each all s) (done_with (Next statuses s))
  has_waited le h =
      let P : List ℕ → Type 0 = λ left. HasWaited s a b all left statuses in
      let Q : List (List ℕ) → Type 0 = λ given. RanBetween a b (wait_each all s) (done_with (Next given s)) in
      subst Q (append-nil statuses) (all_waited s a b all statuses (subst P (ap (map number) (past xs i le)) h))
