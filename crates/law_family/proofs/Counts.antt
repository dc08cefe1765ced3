-- Each shell that was started stands in the family as the child of its very start: as many shells were started by each
-- process as it has children.
use Rattle.std.proofs.Common.{◌≡◌, inl, inr, ℕ, zero, suc, ◌+◌, ◌<◌, List, [], ◌∷◌, ◌++◌, Option, Some, None, refl, sym, ap, ◌∙◌, subst, arith}
use Rattle.std.proofs.lemmas.Bool.{eq-eqb, ne_eqb}
use Rattle.std.proofs.lemmas.Bool.Decides.{eqb_tells}
use Rattle.rc_model.specs.Run.Calls.{Launch, Event, event}
use Rattle.rc_model.specs.Syntax.Tree.{Node, cmd}
use Rattle.rc_model.specs.Run.State.{State}
use Rattle.rc_model.specs.Family.Accounts.{one, put}
use Rattle.rc_model.specs.Family.Family.{Family, FamilyEvent, shell_started, child_process, recorded, with_trace, with_child, first, count_started, shells_started, count_child, children_below}
use Rattle.law_traces.proofs.Keep.{put_self, put_other}
use Rattle.law_family.proofs.Accounts.{put_field}

pub self_one : (h k : ℕ) → h ≡ k → one h k ≡ 1
unfolding one
self_one h k e = rw (eq-eqb h k e)

pub other_one : (h k : ℕ) → (h ≡ k → ⊥) → one h k ≡ 0
unfolding one
other_one h k ne = rw (ne_eqb h k ne)

shells_on : (es : List Event) (e : Event) → shells_started (es ++ e ∷ []) ≡ count_started (shell_started e.call e.answer) + shells_started es
shells_on [] e = refl
shells_on (d ∷ ds) e = omega (arith, shells_on ds e)

pub same_children : (f g : Family) (k n : ℕ) → ((j : ℕ) → j < n → (g.at j).origin ≡ (f.at j).origin) → children_below g k n ≡ children_below f k n
same_children f g k zero h = refl
same_children f g k (suc n) h = let a = ap (count_child k) (h n (omega arith)) in let b = same_children f g k n (λ j l. h j (omega arith)) in omega (arith, a, b)

not_child : (k : ℕ) (o : Option (ℕ × ℕ)) → ((i : ℕ) → o ≡ Some (k, i) → ⊥) → count_child k o ≡ 0
not_child k None h = refl
not_child k (Some o) h = other_one o.0 k (λ z. h o.1 (ap (λ x. Some (x, o.1)) z))

no_children : (f : Family) (k n : ℕ) → ((j i : ℕ) → j < n → (f.at j).origin ≡ Some (k, i) → ⊥) → children_below f k n ≡ 0
no_children f k zero h = refl
no_children f k (suc n) h = let a = not_child k (f.at n).origin (λ i e. h n i (omega arith) e) in let b = no_children f k n (λ j i l e. h j i (omega arith) e) in omega (arith, a, b)

-- each was started by an earlier one, and each has as many children as it started shells
pub record Counted (f : Family) : Type 0 where
  pub earlier : (j : ℕ) → j < f.count → (k n : ℕ) → (f.at j).origin ≡ Some (k, n) → k < j
  pub counts : (k : ℕ) → k < f.count → shells_started (f.at k).trace ≡ children_below f k f.count

-- one shell more of this process, where one was started
abbrev more_at : ℕ → ℕ → Option (Launch × ℕ) → ℕ
more_at i k None = 0
more_at i k (Some o) = one i k

own_more : (i k : ℕ) (o : Option (Launch × ℕ)) → i ≡ k → more_at i k o ≡ count_started o
own_more i k None e = refl
own_more i k (Some o) e = self_one i k e

other_more : (i k : ℕ) (o : Option (Launch × ℕ)) → (i ≡ k → ⊥) → more_at i k o ≡ 0
other_more i k None e = refl
other_more i k (Some o) e = other_one i k e

pub origin_kept : (f : Family) (e : FamilyEvent) (j : ℕ) → ((with_trace f e).at j).origin ≡ (f.at j).origin
origin_kept f e j = put_field (λ p. p.origin) f.at e.at (recorded (f.at e.at) e.call e.answer) refl j

after_event : (f : Family) (e : FamilyEvent) → Counted f → (o : Option (Launch × ℕ)) → shell_started e.call e.answer ≡ o → (k : ℕ) → k < f.count
    → shells_started ((with_trace f e).at k).trace ≡ more_at e.at k o + children_below f k f.count
after_event f e v o s k l = elim (eqb_tells e.at k) [
  | inl y ↦
      let t : ((with_trace f e).at k).trace ≡ (f.at k).trace ++ event e.call e.answer ∷ [] =
      subst (λ i. (put f.at e.at (recorded (f.at e.at) e.call e.answer) i).trace ≡ (f.at i).trace ++ event e.call e.answer ∷ []) y.1
      (ap (λ p. p.trace) (put_self f.at e.at (recorded (f.at e.at) e.call e.answer))) in
      let c = v.counts k l in
      let h = ap shells_started t in
      let d = shells_on (f.at k).trace (event e.call e.answer) in
      let g = ap count_started s in
      let m = own_more e.at k o y.1 in
      omega (arith, c, h, d, g, m)
  | inr y ↦
      let h = ap (λ p. shells_started p.trace) (put_other f.at e.at (recorded (f.at e.at) e.call e.answer) k y.1) in
      let c = v.counts k l in
      let m = other_more e.at k o y.1 in
      omega (arith, c, h, m)
]

abbrev starter : Option (ℕ × ℕ) → ℕ
starter None = 0
starter (Some o) = o.0

module _ (reads : Launch → Node cmd × State) where
  pub counted_first : (c : Node cmd) (s : State) → Counted (first reads c s)
  counted_first c s = record { earlier = λ j l k n e. absurd cc; counts = λ k l. refl }

  module _ (f : Family) (e : FamilyEvent) (v : Counted f) (r : e.at < f.count) where
    module _ (l : Launch) (n : ℕ) (s : shell_started e.call e.answer ≡ Some (l, n)) where
      abbrev Grown : Family
      Grown = with_child reads (with_trace f e) e.at (f.at e.at) (Some (l, n))

      new_at : (j : ℕ) → f.count ≡ j → Grown.at j ≡ child_process reads e.at (f.at e.at) l n
      new_at j z =
          subst (λ i. put (with_trace f e).at f.count (child_process reads e.at (f.at e.at) l n) i ≡ child_process reads e.at (f.at e.at) l n) z
          (put_self (with_trace f e).at f.count (child_process reads e.at (f.at e.at) l n))

      old_at : (j : ℕ) → (f.count ≡ j → ⊥) → Grown.at j ≡ (with_trace f e).at j
      old_at j ne = put_other (with_trace f e).at f.count (child_process reads e.at (f.at e.at) l n) j ne

      pub old_origin : (j : ℕ) → j < f.count → (Grown.at j).origin ≡ (f.at j).origin
      old_origin j m = ap (λ p. p.origin) (old_at j (λ z. absurd (omega arith))) ∙ origin_kept f e j

      below : (k : ℕ) → children_below Grown k Grown.count ≡ one e.at k + children_below f k f.count
      below k = let a = ap (λ p. count_child k p.origin) (new_at f.count refl) in let b = same_children f Grown k f.count old_origin in omega (arith, a, b)

      counted_grown : Counted Grown
      counted_grown = record {
        earlier = λ j m k i h. elim (eqb_tells f.count j) [
          | inl y ↦ let t : e.at ≡ k = ap starter (sym (ap (λ p. p.origin) (new_at j y.1)) ∙ h) in omega (arith, y.1)
          | inr y ↦ v.earlier j (omega arith) k i (sym (old_origin j (omega arith)) ∙ h)
        ];
        counts = λ k m. elim (eqb_tells f.count k) [
          | inl y ↦
              let t = ap (λ p. shells_started p.trace) (new_at k y.1) in
              let d = below k in
              let none = no_children f k f.count (λ j i lt h. let z = v.earlier j lt k i h in absurd (omega (arith, y.1))) in
              let other = other_one e.at k (λ z. absurd (omega (arith, y.1))) in
              omega (arith, t, d, none, other)
          | inr y ↦
              let t = ap (λ p. shells_started p.trace) (old_at k y.1) in
              let c = after_event f e v (Some (l, n)) s k (omega arith) in
              let d = below k in
              omega (arith, t, c, d)
        ];
      }

    pub counted_step : (o : Option (Launch × ℕ)) → shell_started e.call e.answer ≡ o → Counted (with_child reads (with_trace f e) e.at (f.at e.at) o)
    counted_step None s = record {
      earlier = λ j l k n h. v.earlier j l k n (sym (origin_kept f e j) ∙ h);
      counts = λ k l. let c = after_event f e v None s k l in let d = same_children f (with_trace f e) k f.count (λ j m. origin_kept f e j) in omega (arith, c, d);
    }
    counted_step (Some (l, n)) s = counted_grown l n s
