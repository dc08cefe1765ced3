-- The start that made a process is one event of one trace, and each start made one process.
use Rattle.std.proofs.Common.{◌≡◌, inl, inr, ℕ, zero, suc, ◌+◌, ◌-◌, ◌≤◌, ◌<◌, List, [], ◌∷◌, ◌++◌, Option, Some, None, refl, sym, ap, ◌∙◌, subst, arith}
use Rattle.std.proofs.lemmas.Bool.{cases_lt}
use Rattle.std.proofs.lemmas.Bool.Decides.{eqb_tells}
use Rattle.rc_model.specs.Run.Calls.{Launch, Call, start, child, Event, event}
use Rattle.rc_model.specs.Run.State.{State}
use Rattle.rc_model.specs.Syntax.Tree.{Node, cmd}
use Rattle.rc_model.specs.Family.Family.{Family, FamilyEvent, shell_of, shell_started, family, first, ArePossible, WasStarted, HandedSo, count_started, shells_started, count_child, children_below}
use Rattle.law_family.specs.StepLaws.{OneStart, OneChild, IsStart, IsChild, EachStartMakes}
use Rattle.law_family.proofs.Counts.{Counted, counted_first, self_one, other_one}
use Rattle.law_family.proofs.Family.{in_range}
use Rattle.law_family.proofs.Members.{handed_so, counted_all, one_per_start}

-- ** two places of a trace with as many starts before them are one
abbrev count : Event → ℕ
count e = count_started (shell_started e.call e.answer)

abbrev pub Same : List Event → List Event → Event → Event → Type 0
Same a b x y = (a ≡ b) × (x ≡ y)

first_same : (x y : Event) (a b : List Event) → ◌≡◌ {A = List Event} (x ∷ a) (y ∷ b) → (x ≡ y) × (a ≡ b)
first_same x y a b e = (cc, cc)

one_more : (d e : Event) (a b : List Event) (x y : Event) → d ≡ e → Same a b x y → Same (d ∷ a) (e ∷ b) x y
one_more d e a b x y h s = (ap (λ z. z ∷ a) h ∙ ap (λ l. e ∷ l) s.0, s.1)

one_place : (a b : List Event) (x y : Event) (p q : List Event) → count x ≡ 1 → count y ≡ 1 → shells_started a ≡ shells_started b
    → a ++ x ∷ p ≡ b ++ y ∷ q → Same a b x y
one_place [] [] x y p q cx cy n e = (refl, (first_same x y p q e).0)
one_place [] (d ∷ b) x y p q cx cy n e = let h = ap count (first_same x d p (b ++ y ∷ q) e).0 in absurd (omega (arith, cx, n, h))
one_place (d ∷ a) [] x y p q cx cy n e = let h = ap count (first_same d y (a ++ x ∷ p) q e).0 in absurd (omega (arith, cy, n, h))
one_place (d ∷ a) (g ∷ b) x y p q cx cy n e =
    let s = first_same d g (a ++ x ∷ p) (b ++ y ∷ q) e in
    let h = ap count s.0 in
    one_more d g a b x y s.0 (one_place a b x y p q cx cy (omega (arith, n, h)) s.1)

is_counted : (l : Launch) (n : ℕ) → l.program ≡ None → count (event (start l) (child n)) ≡ 1
is_counted l n e = ap (λ o. count_started (shell_of o l n)) e

abbrev launch_in : Launch → Call → Launch
launch_in l (start k) = k
launch_in l _ = l

abbrev starter : Option (ℕ × ℕ) → ℕ
starter None = 0
starter (Some o) = o.0

pub one_start : OneStart
one_start reads f j k m w v =
    let k_is : k ≡ m = ap starter (sym w.origin ∙ v.origin) in
    let n : shells_started w.before ≡ shells_started v.before = w.the_start ∙ (ap (λ i. children_below f i j) k_is ∙ sym v.the_start) in
    let t : w.before ++ event (start w.launch) (child w.number) ∷ w.later ≡ v.before ++ event (start v.launch) (child v.number) ∷ v.later =
    sym w.in_trace ∙ (ap (λ i. (f.at i).trace) k_is ∙ v.in_trace) in
    let s = one_place w.before v.before (event (start w.launch) (child w.number)) (event (start v.launch) (child v.number)) w.later v.later
    (is_counted w.launch w.number w.shell) (is_counted v.launch v.number v.shell) n t in
    (k_is, s.0, ap (λ e. launch_in w.launch e.call) s.1)

-- ** children by their number
more_below : (f : Family) (k i d : ℕ) → children_below f k i ≤ children_below f k (d + i)
more_below f k i zero = subst (λ n. children_below f k i ≤ children_below f k n) (let e : i ≡ 0 + i = omega arith in e) (omega arith)
more_below f k i (suc d) = let a = more_below f k i d in subst (λ n. children_below f k i ≤ children_below f k n) (let e : suc (d + i) ≡ suc d + i = omega arith in e) (omega (arith, a))

below_child : (f : Family) (k n i j : ℕ) → (f.at i).origin ≡ Some (k, n) → i < j → children_below f k i < children_below f k j
below_child f k n i j o l =
    let a = ap (count_child k) o in
    let b = self_one k k refl in
    let d = more_below f k (suc i) (j - suc i) in
    let e : (j - suc i) + suc i ≡ j = omega (arith, l) in
    let c = subst (λ m. children_below f k (suc i) ≤ children_below f k m) e d in
    omega (arith, a, b, c)

pub one_child : OneChild
one_child reads f i j k w v e =
    let n : children_below f k i ≡ children_below f k j = sym w.the_start ∙ (ap shells_started e ∙ v.the_start) in
    elim (cases_lt i j) [
      | inl l ↦ absurd (let b = below_child f k w.number i j w.origin l in omega (arith, n, b))
      | inr l ↦ elim (cases_lt j i) [
        | inl m ↦ absurd (let b = below_child f k v.number j i v.origin m in omega (arith, n, b))
        | inr m ↦ omega (arith, l, m)
      ]
    ]

-- ** the child of a number
pub record Found (f : Family) (k n m : ℕ) : Type 0 where
  pub at : ℕ
  pub below : at < n
  pub counts : children_below f k at ≡ m
  pub number : ℕ
  pub origin : (f.at at).origin ≡ Some (k, number)

wider : (f : Family) (k n m : ℕ) → Found f k n m → Found f k (suc n) m
wider f k n m w = record { at = w.at; below = omega (arith, w.below); counts = w.counts; number = w.number; origin = w.origin }

found_at : (f : Family) (k n m : ℕ) (o : Option (ℕ × ℕ)) → (f.at n).origin ≡ o → (m < children_below f k n → Found f k n m)
    → m < count_child k o + children_below f k n → Found f k (suc n) m
found_at f k n m None e ih l = wider f k n m (ih (omega (arith, l)))
found_at f k n m (Some o) e ih l = elim (cases_lt m (children_below f k n)) [
  | inl b ↦ wider f k n m (ih b)
  | inr b ↦ elim (eqb_tells o.0 k) [
    | inl y ↦ let u = self_one o.0 k y.1 in record { at = n; below = omega arith; counts = omega (arith, u, l, b); number = o.1; origin = e ∙ ap (λ x. Some (x, o.1)) y.1 }
    | inr y ↦ let u = other_one o.0 k y.1 in absurd (omega (arith, u, l, b))
  ]
]

find : (f : Family) (k n m : ℕ) → m < children_below f k n → Found f k n m
find f k zero m l = absurd (omega arith)
find f k (suc n) m l = let a = ap (count_child k) (let r : (f.at n).origin ≡ (f.at n).origin = refl in r) in found_at f k n m (f.at n).origin refl (find f k n m) l

-- before a start stand fewer than in the whole trace
shells_before : (a : List Event) (x : Event) (p : List Event) → count x ≡ 1 → shells_started a < shells_started (a ++ x ∷ p)
shells_before [] x p c = omega (arith, c)
shells_before (d ∷ a) x p c = omega (arith, shells_before a x p c)

-- the process of this number was started by that start
started_so : (reads : Launch → Node cmd × State) (f : Family) (c : Node cmd) (s : State) (j k i : ℕ) → (f.at j).origin ≡ Some (k, i)
    → ((f.at 0).origin ≡ None) → HandedSo reads c s f j → WasStarted reads f j k
started_so reads f c s zero k i e n h = absurd (let z : None ≡ Some (k, i) = sym n ∙ e in cc)
started_so reads f c s (suc j) k i e n h = subst (WasStarted reads f (suc j)) (ap starter (sym h.1.origin ∙ e)) h.1

module _ (reads : Launch → Node cmd × State) (f : Family) (k : ℕ) (before : List Event) (t : IsStart (f.at k) before) (v : Counted f) (l : k < f.count) where
  found : Found f k f.count (shells_started before)
  found =
      let x = event (start t.launch) (child t.number) in
      let b = shells_before before (event (start t.launch) (child t.number)) t.later (is_counted t.launch t.number t.shell) in
      let e = ap shells_started t.in_trace in
      let c = v.counts k l in
      find f k f.count (shells_started before) (omega (arith, b, e, c))

  child_there : WasStarted reads f found.at k → IsChild reads f k before
  child_there w = record {
    at = found.at;
    in_family = found.below;
    started = w;
    by_start = (one_place w.before before (event (start w.launch) (child w.number)) (event (start t.launch) (child t.number)) w.later t.later
        (is_counted w.launch w.number w.shell) (is_counted t.launch t.number t.shell) (w.the_start ∙ found.counts) (sym w.in_trace ∙ t.in_trace)).0;
  }

pub each_start_makes : EachStartMakes
each_start_makes reads c s es p k before l t =
    let f = family reads (first reads c s) es in
    let v = counted_all reads es (first reads c s) (in_range reads es (first reads c s) p) (counted_first reads c s) in
    let g = found reads f k before t v l in
    child_there reads (family reads (first reads c s) es) k before t v l
    (started_so reads (family reads (first reads c s) es) c s g.at k g.number g.origin (first_origin reads c s es p) (handed_so reads c s es p g.at g.below))
  where
    first_origin : (reads : Launch → Node cmd × State) (c : Node cmd) (s : State) (es : List FamilyEvent) → ArePossible reads (first reads c s) es
        → ((family reads (first reads c s) es).at 0).origin ≡ None
    first_origin reads c s es p = (one_per_start reads c s es p).0
