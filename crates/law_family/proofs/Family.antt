-- The write ends of a family, and that no ring of waiting shells is closed.
use Rattle.std.proofs.Common.{◌≡◌, ◌⊎◌, inl, inr, ℕ, zero, suc, ◌≤◌, ◌<◌, List, [], ◌∷◌, Option, Some, None, refl, sym, ap, ◌∙◌, subst, arith}
use Rattle.std.proofs.lemmas.Bool.Decides.{eqb_tells}
use Rattle.rc_model.specs.Run.Calls.{slot_of, Launch, Call, Answer, event, open_file, here, make_pipe, close, read, write, start, wait, list_names, probe, change_dir, child}
use Rattle.rc_model.specs.declared.call.Slot.{Slot}
use Rattle.rc_model.specs.declared.call.Slot.TheVariants.{Own, To}
use Rattle.rc_model.specs.declared.call.Slots.{Slots}
use Rattle.rc_model.specs.Syntax.Tree.{Node, cmd}
use Rattle.rc_model.specs.Run.State.{State}
use Rattle.rc_model.specs.Family.Accounts.{Thing, a_file, read_end, write_end, Due, free, made, used, passed, Account, HoldsSlot, HoldsSlots, InTurn, Allowed, at_start, IsDue}
use Rattle.rc_model.specs.Family.Family.{writes_to, Process, Family, FamilyEvent, holding, IsPending, ArePossible, end_of, stood_for, shell_of}
use Rattle.rc_model.specs.Family.Family.{shell_started, child_process, recorded, with_trace, with_child, stepped, family, first, EachOf, Descends}
use Rattle.rc_model.specs.Family.Family.{itself, started_by, HoldsWrite, WritesTo, WasHanded, WriteEnds, WaitsBy, WaitsFor, WaitsLong, directly}
use Rattle.rc_model.specs.Family.Family.{through, NoRing}
use Rattle.law_traces.proofs.Keep.{put_self, put_other}
use Rattle.law_family.proofs.Accounts.{allowed_on, fresh_on, newest, Good, Sound, sound_good}
use Rattle.law_family.proofs.WriteEnds.{Inv, held_on_step, child_back, writes_back, writes_on, place_grows, inv_trace, Fits, inv_grown}

-- A child that is started.
writer_of : (k m q : ℕ) (t : Thing) → end_of k t ≡ writes_to m q → (k ≡ m) × (t ≡ write_end q)
writer_of k m q a_file e = absurd cc
writer_of k m q (read_end p) e = absurd cc
writer_of k m q (write_end p) e = (cc, ap write_end (let g : p ≡ q = cc in g))

due_made : (l : Launch) (q h : ℕ) (d : Due) → InTurn d (start l) → IsDue q h d → (w : ℕ) × (d ≡ made q w)
due_made l q h free t i = absurd i
due_made l q h (passed p j) t i = absurd i
due_made l q h (made p w) t i = (w, ap (λ x. made x w) i.0)
due_made l q h (used p w j) t i = absurd t

-- a slot of a launch that stands for a write end: of a pipe that was just made, or what it is to the parent
slot_writes : (k m q : ℕ) (p : Process) (l : Launch) (slot : Slot) → Good (holding p) → InTurn (holding p).due (start l) → HoldsSlot (holding p) slot → stood_for k p slot ≡ writes_to m q
    → ((m ≡ k) × ((w : ℕ) × ((holding p).due ≡ made q w))) ⊎ WritesTo p m q
slot_writes k m q p l (Own i) g t h e = inr (i, e)
slot_writes k m q p l (To n) g t h e = let r = writer_of k m q ((holding p).things n.0) e in inl (sym r.0, due_made l q n.0 (holding p).due t (g.one.only n.0 q h r.1))

slot_held : (a : Account) (slots : Slots) (i : ℕ) → HoldsSlots a slots → HoldsSlot a (slot_of slots i)
slot_held a slots zero h = h.input
slot_held a slots (suc zero) h = h.output
slot_held a slots (suc (suc n)) h = h.errors

abbrev pub launch_of : Option (Launch × ℕ) → Launch → Launch
launch_of None l = l
launch_of (Some o) l = o.0

pub launch_is : (c : Call) (x : Answer) (l : Launch) (n : ℕ) → shell_started c x ≡ Some (l, n) → c ≡ start l
launch_is (start k) (child m) l n e = by_program k.program e
  where
    by_program : (o : Option (List ℕ)) → shell_of o k m ≡ Some (l, n) → start k ≡ start l
    by_program None e = ap start (ap (λ o. launch_of o k) e)
    by_program (Some p) e = absurd cc
launch_is (start k) _ l n e = absurd cc
launch_is _ x l n e = absurd cc

module _ (reads : Launch → Node cmd × State) where
  child_fits : (f : Family) (e : FamilyEvent) (l : Launch) (n : ℕ) → e.at < f.count → Inv f → Good (holding (f.at e.at))
      → Allowed (holding (f.at e.at)) (start l) → Fits (with_trace f e) e.at n (child_process reads e.at (f.at e.at) l n)
  child_fits f e l n r v g a = record {
    parent = r;
    origin = refl;
    came = λ m q w. elim (slot_writes e.at m q (f.at e.at) l (slot_of l.slots w.0) g a.in_turn (slot_held (holding (f.at e.at)) l.slots w.0 a.names) w.1) [
      | inl y ↦ (
        subst (λ x. x < f.count) (sym y.0) r,
        subst (λ x. q < (holding ((with_trace f e).at x)).place) (sym y.0)
            (let b = g.below q y.1.0 y.1.1 in let s = place_grows f e e.at in omega arith),
        inl y.0,
      )
      | inr y ↦ let k = v.came e.at r m q y in let s = place_grows f e m in (omega (arith, k.below), omega (arith, k.was_made), inr (writes_on f e e.at m q y))
    ];
    spent = λ q w u d. let y = own q w in let b = g.below q y.0 y.1 in elim (held_on_step f e e.at) [
      | inl z ↦ let s = newest (holding (f.at e.at)) e.call e.answer q u (sym (ap (λ x. x.due) z.1) ∙ d) in absurd (omega arith)
      | inr z ↦ absurd (z.0 refl)
    ];
    new = λ q w j lj h. let y = own q w in v.spent j lj e.at q (child_back f e j e.at h.0, writes_back f e j e.at q h.1) y.0 y.1;
  }
    where
      own : (q : ℕ) → WritesTo (child_process reads e.at (f.at e.at) l n) e.at q → (w : ℕ) × ((holding (f.at e.at)).due ≡ made q w)
      own q w = elim (slot_writes e.at e.at q (f.at e.at) l (slot_of l.slots w.0) g a.in_turn (slot_held (holding (f.at e.at)) l.slots w.0 a.names) w.1) [
        | inl y ↦ y.1
        | inr y ↦ absurd (let k = v.came e.at r e.at q y in omega (arith, k.below))
      ]

  inv_stepped : (f : Family) (e : FamilyEvent) → e.at < f.count → Inv f → Good (holding (f.at e.at)) → Allowed (holding (f.at e.at)) e.call → Inv (stepped reads f e)
  inv_stepped f e r v g a = with_one (shell_started e.call e.answer) refl
    where
      with_one : (o : Option (Launch × ℕ)) → shell_started e.call e.answer ≡ o → Inv (with_child reads (with_trace f e) e.at (f.at e.at) o)
      with_one None s = inv_trace f e v
      with_one (Some (l, n)) s = inv_grown (with_trace f e) e.at n (child_process reads e.at (f.at e.at) l n)
          (child_fits f e l n r v g (subst (Allowed (holding (f.at e.at))) (launch_is e.call e.answer l n s) a)) (inv_trace f e v)

  pub inv_first : (c : Node cmd) (s : State) → Inv (first reads c s)
  inv_first c s = record {
    parents = λ j l m d. absurd (let e = d.1 in cc);
    came = λ j l m q w. absurd (let e = w.1 in cc);
    spent = λ j l m q h. absurd (let e = h.1.1 in cc);
    once = λ m q i j li lj hi hj. absurd (let e = hi.1.1 in cc);
  }

  -- the other processes stay as they are
  pub stays : (f : Family) (e : FamilyEvent) (j : ℕ) → j < f.count → (stepped reads f e).at j ≡ (with_trace f e).at j
  stays f e j l = by_child (shell_started e.call e.answer)
    where
      by_child : (o : Option (Launch × ℕ)) → (with_child reads (with_trace f e) e.at (f.at e.at) o).at j ≡ (with_trace f e).at j
      by_child None = refl
      by_child (Some (k, n)) = put_other (with_trace f e).at f.count _ j (λ z. absurd (omega arith))

  pub more : (f : Family) (e : FamilyEvent) → f.count ≤ (stepped reads f e).count
  more f e = by_child (shell_started e.call e.answer)
    where
      by_child : (o : Option (Launch × ℕ)) → f.count ≤ (with_child reads (with_trace f e) e.at (f.at e.at) o).count
      by_child None = omega arith
      by_child (Some (k, n)) = omega arith

  abbrev pub InRange : Family → List FamilyEvent → Type 0
  InRange f [] = Unit {0}
  InRange f (e ∷ es) = (e.at < f.count) × InRange (stepped reads f e) es

  sound_before : (p : Process) (c : Call) (x : Answer) → Sound (recorded p c x) → Sound p × Allowed (holding p) c
  sound_before p c x s =
      let f = fresh_on (at_start p.state) p.trace (event c x) s.0 in
      let a = allowed_on (at_start p.state) p.trace (event c x) s.1 in
      ((f.0, a.0), a.1)

  sound_back : (f : Family) (e : FamilyEvent) → e.at < f.count → EachOf Sound (stepped reads f e) → EachOf Sound f × Allowed (holding (f.at e.at)) e.call
  sound_back f e r s = (
    λ j l. elim (eqb_tells e.at j) [
      | inl y ↦ subst (λ i. Sound (f.at i)) y.1 own.0
      | inr y ↦ subst Sound (put_other f.at e.at (recorded (f.at e.at) e.call e.answer) j y.1) (at_trace j l)
    ],
    own.1,
  )
    where
      at_trace : (j : ℕ) → j < f.count → Sound ((with_trace f e).at j)
      at_trace j l = subst Sound (stays f e j l) (s j (let m = more f e in omega arith))

      own : Sound (f.at e.at) × Allowed (holding (f.at e.at)) e.call
      own = sound_before (f.at e.at) e.call e.answer (subst Sound (put_self f.at e.at (recorded (f.at e.at) e.call e.answer)) (at_trace e.at r))

  sound_all_back : (es : List FamilyEvent) (f : Family) → InRange f es → EachOf Sound (family reads f es) → EachOf Sound f
  sound_all_back [] f r s = s
  sound_all_back (e ∷ es) f r s = (sound_back f e r.0 (sound_all_back es (stepped reads f e) r.1 s)).0

  pub inv_family : (es : List FamilyEvent) (f : Family) → InRange f es → EachOf Sound (family reads f es) → Inv f → Inv (family reads f es)
  inv_family [] f r s v = v
  inv_family (e ∷ es) f r s v =
      let b = sound_back f e r.0 (sound_all_back es (stepped reads f e) r.1 s) in
      inv_family es (stepped reads f e) r.1 s (inv_stepped f e r.0 v (sound_good (f.at e.at) (b.0 e.at r.0)) b.1)

-- The write ends.
handed_from : (f : Family) → Inv f → (m q : ℕ) (b j : ℕ) → j < b → j < f.count → WritesTo (f.at j) m q → (i : ℕ) × (i < f.count) × WasHanded f i m q × Descends f j i
handed_from f v m q zero j lb l w = absurd (omega arith)
handed_from f v m q (suc b) j lb l w = elim (v.came j l m q w).way [
  | inl c ↦ (j, l, (c, w), itself)
  | inr y ↦ let d = handed_from f v m q b y.0 (omega (arith, y.1)) (omega (arith, y.1)) y.3 in (d.0, d.1, d.2, started_by y.2 d.3)
]

pub write_ends : (f : Family) → Inv f → WriteEnds f
write_ends f v = record {
  one_child = λ m q i j li lj hi hj. v.once m q i j li lj hi hj;
  descends = λ m q j l closed h. elim h [
    | inl y ↦ absurd (closed (subst (λ i. HoldsWrite (f.at i) q) y.0 y.1))
    | inr w ↦ handed_from f v m q (suc j) j (omega arith) l w
  ];
}

-- No ring.
reads_calm : (h : ℕ) (d : Due) → InTurn d (read h) → (q k : ℕ) → IsDue q k d → ⊥
reads_calm h free t q k i = i
reads_calm h (passed p j) t q k i = i
reads_calm h (made p w) t q k i = t
reads_calm h (used p w j) t q k i = t

waits_up : (f : Family) → Inv f → EachOf Sound f → ((j : ℕ) → j < f.count → (c : Call) → IsPending (f.at j) c → Allowed (holding (f.at j)) c) → (k j : ℕ) → WaitsFor f k j → k < j
waits_up f v s a k j w = by_call w.call (a k w.waiter w.call w.pending) w.waits
  where
    by_call : (c : Call) → Allowed (holding (f.at k)) c → WaitsBy f k c j → k < j
    by_call (wait n) t u = v.parents j w.other k (n, u)
    by_call (read h) t (q, r, inl y) =
        absurd
        (let g = sound_good (f.at k) (s k w.waiter) in let o = subst (λ i. HoldsWrite (f.at i) q) y.0 y.1 in reads_calm h (holding (f.at k)).due t.in_turn q o.0 (g.one.only o.0 q o.1 o.2))
    by_call (read h) t (q, r, inr y) = (v.came j w.other k q y).below
    by_call (open_file p m) t u = absurd u
    by_call (here x) t u = absurd u
    by_call make_pipe t u = absurd u
    by_call (close h) t u = absurd u
    by_call (write to x) t u = absurd u
    by_call (start l) t u = absurd u
    by_call (list_names p) t u = absurd u
    by_call (probe p) t u = absurd u
    by_call (change_dir p) t u = absurd u

waits_far : (f : Family) → ((k j : ℕ) → WaitsFor f k j → k < j) → {k j : ℕ} → WaitsLong f k j → k < j
waits_far f up (directly {k = k} {j = j} w) = up k j w
waits_far f up (through {k = k} {j = j} w more) = let a = up k j w in let b = waits_far f up more in omega arith

pub no_ring : (f : Family) → Inv f → EachOf Sound f → ((j : ℕ) → j < f.count → (c : Call) → IsPending (f.at j) c → Allowed (holding (f.at j)) c) → NoRing f
no_ring f v s a = record {
  for_greater = waits_up f v s a;
  not_itself = λ k w. let l = waits_far f (waits_up f v s a) w in absurd (omega arith);
  greatest = λ k ended j w. ended j w.other (waits_up f v s a k j w);
}

pub in_range : (reads : Launch → Node cmd × State) (es : List FamilyEvent) (f : Family) → ArePossible reads f es → InRange reads f es
in_range reads [] f p = tt
in_range reads (e ∷ es) f p = (p.0.in_family, in_range reads es (stepped reads f e) p.1)
