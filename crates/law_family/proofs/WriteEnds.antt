-- How write ends of pipes come to the processes of a family: what each event keeps, and each process that is added.
use Rattle.std.proofs.Common.{◌≡◌, ◌⊎◌, inl, inr, ℕ, suc, ◌≤◌, ◌<◌, Option, Some, None, refl, sym, ap, ◌∙◌, subst, arith}
use Rattle.std.proofs.lemmas.Bool.Decides.{eqb_tells}
use Rattle.rc_model.specs.Run.Calls.{event}
use Rattle.rc_model.specs.Family.Accounts.{made, put, after, at_start}
use Rattle.rc_model.specs.Family.Family.{writes_to, Process, Family, FamilyEvent, holding, recorded, with_trace, IsChildOf, WritesTo, WasHanded}
use Rattle.law_traces.proofs.Keep.{put_self, put_other}
use Rattle.law_family.proofs.Accounts.{account_on, newest, place_on, put_field}

-- How a process comes to the write end of a pipe.
pub record Came (f : Family) (j m q : ℕ) : Type 0 where
  pub below : m < j
  pub was_made : q < (holding (f.at m)).place
  pub way : IsChildOf f j m ⊎ ((k : ℕ) × (k < j) × IsChildOf f j k × WritesTo (f.at k) m q)

pub record Inv (f : Family) : Type 0 where
  pub parents : (j : ℕ) → j < f.count → (m : ℕ) → IsChildOf f j m → m < j
  pub came : (j : ℕ) → j < f.count → (m q : ℕ) → WritesTo (f.at j) m q → Came f j m q
  pub spent : (j : ℕ) → j < f.count → (m q : ℕ) → WasHanded f j m q → (w : ℕ) → (holding (f.at m)).due ≡ made q w → ⊥
  pub once : (m q i j : ℕ) → i < f.count → j < f.count → WasHanded f i m q → WasHanded f j m q → i ≡ j

pub held_on_step : (f : Family) (e : FamilyEvent) (m : ℕ)
    → ((e.at ≡ m) × (holding ((with_trace f e).at m) ≡ after (holding (f.at m)) e.call e.answer)) ⊎ ((e.at ≡ m → ⊥) × ((with_trace f e).at m ≡ f.at m))
held_on_step f e m = elim (eqb_tells e.at m) [
  | inl y ↦ inl (
    y.1,
    subst (λ i. holding (put f.at e.at (recorded (f.at e.at) e.call e.answer) i) ≡ after (holding (f.at i)) e.call e.answer) y.1
        (ap holding (put_self f.at e.at (recorded (f.at e.at) e.call e.answer)) ∙ account_on (at_start (f.at e.at).state) (f.at e.at).trace (event e.call e.answer)),
  )
  | inr y ↦ inr (y.1, put_other f.at e.at (recorded (f.at e.at) e.call e.answer) m y.1)
]

origin_same : (f : Family) (e : FamilyEvent) (j : ℕ) → ((with_trace f e).at j).origin ≡ (f.at j).origin
origin_same f e j = put_field (λ p. p.origin) f.at e.at (recorded (f.at e.at) e.call e.answer) refl j

stands_same : (f : Family) (e : FamilyEvent) (j : ℕ) → ((with_trace f e).at j).stands ≡ (f.at j).stands
stands_same f e j = put_field (λ p. p.stands) f.at e.at (recorded (f.at e.at) e.call e.answer) refl j

pub child_back : (f : Family) (e : FamilyEvent) (j m : ℕ) → IsChildOf (with_trace f e) j m → IsChildOf f j m
child_back f e j m c = (c.0, sym (origin_same f e j) ∙ c.1)

child_on : (f : Family) (e : FamilyEvent) (j m : ℕ) → IsChildOf f j m → IsChildOf (with_trace f e) j m
child_on f e j m c = (c.0, origin_same f e j ∙ c.1)

pub writes_back : (f : Family) (e : FamilyEvent) (j m q : ℕ) → WritesTo ((with_trace f e).at j) m q → WritesTo (f.at j) m q
writes_back f e j m q w = (w.0, ap (λ s. s w.0) (sym (stands_same f e j)) ∙ w.1)

pub writes_on : (f : Family) (e : FamilyEvent) (j m q : ℕ) → WritesTo (f.at j) m q → WritesTo ((with_trace f e).at j) m q
writes_on f e j m q w = (w.0, ap (λ s. s w.0) (stands_same f e j) ∙ w.1)

pub place_grows : (f : Family) (e : FamilyEvent) (m : ℕ) → (holding (f.at m)).place ≤ (holding ((with_trace f e).at m)).place
place_grows f e m = elim (held_on_step f e m) [
  | inl y ↦ let s = ap (λ a. a.place) y.1 in let t = place_on (holding (f.at m)) e.call e.answer in omega arith
  | inr y ↦ let s = ap (λ p. (holding p).place) y.1 in omega arith
]

pub inv_trace : (f : Family) (e : FamilyEvent) → Inv f → Inv (with_trace f e)
inv_trace f e v = record {
  parents = λ j l m c. v.parents j l m (child_back f e j m c);
  came = λ j l m q w. let k = v.came j l m q (writes_back f e j m q w) in record {
    below = k.below;
    was_made = let g = place_grows f e m in omega (arith, k.was_made);
    way = elim k.way [ inl c ↦ inl (child_on f e j m c) | inr c ↦ inr (c.0, c.1, child_on f e j c.0 c.2, writes_on f e c.0 m q c.3) ];
  };
  spent = λ j l m q h w d. elim (held_on_step f e m) [
    | inl y ↦ let k = v.came j l m q (writes_back f e j m q h.1) in let s = newest (holding (f.at m)) e.call e.answer q w (sym (ap (λ a. a.due) y.1) ∙ d) in absurd (omega (arith, k.was_made))
    | inr y ↦ v.spent j l m q (child_back f e j m h.0, writes_back f e j m q h.1) w (sym (ap (λ p. (holding p).due) y.1) ∙ d)
  ];
  once = λ m q i j li lj hi hj. v.once m q i j li lj (child_back f e i m hi.0, writes_back f e i m q hi.1) (child_back f e j m hj.0, writes_back f e j m q hj.1);
}

-- one process more
abbrev grown : Family → Process → Family
grown f c = record { count = suc f.count; at = put f.at f.count c }

-- what a new process has to meet
pub record Fits (f : Family) (k n : ℕ) (c : Process) : Type 0 where
  pub parent : k < f.count
  pub origin : c.origin ≡ Some (k, n)
  pub came : (m q : ℕ) → WritesTo c m q → (m < f.count) × (q < (holding (f.at m)).place) × ((m ≡ k) ⊎ WritesTo (f.at k) m q)
  pub spent : (q : ℕ) → WritesTo c k q → (w : ℕ) → (holding (f.at k)).due ≡ made q w → ⊥
  pub new : (q : ℕ) → WritesTo c k q → (j : ℕ) → j < f.count → WasHanded f j k q → ⊥

abbrev starter : Option (ℕ × ℕ) → ℕ
starter None = 0
starter (Some o) = o.0

same_origin : (k n m i : ℕ) (o : Option (ℕ × ℕ)) → o ≡ Some (k, n) → o ≡ Some (m, i) → k ≡ m
same_origin k n m i o e g = ap starter (sym e ∙ g)

pub inv_grown : (f : Family) (k n : ℕ) (c : Process) → Fits f k n c → Inv f → Inv (grown f c)
inv_grown f k n c t v = record {
  parents = λ j l m d. elim (eqb_tells f.count j) [
    | inl y ↦ let s = same_origin k n m d.0 c.origin t.origin (sym (ap (λ p. p.origin) (new_at j y.1)) ∙ d.1) in omega (arith, t.parent)
    | inr y ↦ v.parents j (omega arith) m (d.0, sym (ap (λ p. p.origin) (old_at j y.1)) ∙ d.1)
  ];
  came = λ j l m q w. elim (eqb_tells f.count j) [
    | inl y ↦ let a = t.came m q (w.0, sym (ap (λ p. p.stands w.0) (new_at j y.1)) ∙ w.1) in record {
      below = omega (arith, a.0);
      was_made = subst (λ p. q < (holding p).place) (sym (old_lt m a.0)) a.1;
      way = elim a.2 [
        | inl e ↦ inl (n, ap (λ p. p.origin) (new_at j y.1) ∙ (t.origin ∙ ap (λ x. Some (x, n)) (sym e)))
        | inr h ↦ inr (k, omega (arith, t.parent), (n, ap (λ p. p.origin) (new_at j y.1) ∙ t.origin), (h.0, ap (λ p. p.stands h.0) (old_lt k t.parent) ∙ h.1))
      ];
    }
    | inr y ↦ let lt : j < f.count = omega arith in let a = v.came j lt m q (w.0, sym (ap (λ p. p.stands w.0) (old_at j y.1)) ∙ w.1) in record {
      below = a.below;
      was_made = subst (λ p. q < (holding p).place) (sym (old_lt m (omega (arith, a.below)))) a.was_made;
      way = elim a.way [
        | inl d ↦ inl (d.0, ap (λ p. p.origin) (old_at j y.1) ∙ d.1)
        | inr d ↦ inr (d.0, d.1, (d.2.0, ap (λ p. p.origin) (old_at j y.1) ∙ d.2.1), (d.3.0, ap (λ p. p.stands d.3.0) (old_lt d.0 (omega (arith, d.1))) ∙ d.3.1))
      ];
    }
  ];
  spent = λ j l m q h w d. elim (eqb_tells f.count j) [
    | inl y ↦
        let s = same_origin k n m h.0.0 c.origin t.origin (sym (ap (λ p. p.origin) (new_at j y.1)) ∙ h.0.1) in
        let lt : m < f.count = omega (arith, t.parent) in
        t.spent q (h.1.0, sym (ap (λ p. p.stands h.1.0) (new_at j y.1)) ∙ (h.1.1 ∙ ap (λ x. writes_to x q) (sym s))) w
        (ap (λ x. (holding (f.at x)).due) s ∙ (sym (ap (λ p. (holding p).due) (old_lt m lt)) ∙ d))
    | inr y ↦
        let lj : j < f.count = omega arith in
        let h2 : WasHanded f j m q = ((h.0.0, sym (ap (λ p. p.origin) (old_at j y.1)) ∙ h.0.1), (h.1.0, sym (ap (λ p. p.stands h.1.0) (old_at j y.1)) ∙ h.1.1)) in
        let lt : m < f.count = omega (arith, v.parents j lj m h2.0) in
        v.spent j lj m q h2 w (sym (ap (λ p. (holding p).due) (old_lt m lt)) ∙ d)
  ];
  once = λ m q i j li lj hi hj. elim (eqb_tells f.count i) [
    | inl y ↦ elim (eqb_tells f.count j) [
      | inl z ↦ sym y.1 ∙ z.1
      | inr z ↦ absurd (clash m q i j y.1 (omega arith) z.1 hi hj)
    ]
    | inr y ↦ elim (eqb_tells f.count j) [
      | inl z ↦ absurd (clash m q j i z.1 (omega arith) y.1 hj hi)
      | inr z ↦ v.once m q i j (omega arith) (omega arith) (handed_old m q i y.1 hi) (handed_old m q j z.1 hj)
    ]
  ];
}
  where
    new_at : (j : ℕ) → f.count ≡ j → put f.at f.count c j ≡ c
    new_at j e = subst (λ i. put f.at f.count c i ≡ c) e (put_self f.at f.count c)

    old_at : (j : ℕ) → (f.count ≡ j → ⊥) → put f.at f.count c j ≡ f.at j
    old_at j ne = put_other f.at f.count c j ne

    old_lt : (j : ℕ) → j < f.count → put f.at f.count c j ≡ f.at j
    old_lt j l = put_other f.at f.count c j (λ e. absurd (omega arith))

    handed_old : (m q j : ℕ) → (f.count ≡ j → ⊥) → WasHanded (grown f c) j m q → WasHanded f j m q
    handed_old m q j ne h = ((h.0.0, sym (ap (λ p. p.origin) (old_at j ne)) ∙ h.0.1), (h.1.0, sym (ap (λ p. p.stands h.1.0) (old_at j ne)) ∙ h.1.1))

    clash : (m q i j : ℕ) → f.count ≡ i → j < f.count → (f.count ≡ j → ⊥) → WasHanded (grown f c) i m q → WasHanded (grown f c) j m q → ⊥
    clash m q i j e l ne hi hj =
        let s = same_origin k n m hi.0.0 c.origin t.origin (sym (ap (λ p. p.origin) (new_at i e)) ∙ hi.0.1) in
        let w : WritesTo c m q = (hi.1.0, sym (ap (λ p. p.stands hi.1.0) (new_at i e)) ∙ hi.1.1) in
        t.new q (subst (λ x. WritesTo c x q) (sym s) w) j l (subst (λ x. WasHanded f j x q) (sym s) (handed_old m q j ne hj))
