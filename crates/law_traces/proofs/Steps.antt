-- What one event does to what is held and owed.
use Rattle.std.proofs.Common.{◌≡◌, ◌≢◌, inl, inr, ℕ, ◌≤◌, ◌<◌, List, [], ◌∷◌, Option, Some, None, refl, sym, ap, ◌∙◌, subst, arith}
use Rattle.std.proofs.lemmas.Bool.{eq-eqb, ne_eqb}
use Rattle.std.proofs.lemmas.Bool.Decides.{eqb_tells}
use Rattle.rc_model.specs.Run.Calls.{Call, to_file, Launch, make_pipe, close, start, wait}
use Rattle.rc_model.specs.declared.call.Slot.{Slot}
use Rattle.rc_model.specs.Run.State.{State}
use Rattle.rc_model.specs.Handed.Handed.{HandsOver}
use Rattle.rc_model.specs.Family.Accounts.{Thing, a_file, read_end, write_end, Due, made, used, passed, Account, one, put, counts, next_due, joins}
use Rattle.rc_model.specs.Family.Accounts.{pipeline_after, with_call, add_file, add_pair, fed, add_owed, past, Names, InTurn, Elsewhere, NoneHeld}
use Rattle.rc_model.specs.Family.Accounts.{Apart, Allowed}
use Rattle.law_traces.proofs.Keep.{one_self, put_self, put_other, Held, held, alone, of_line, Kid, kid_of, held_counts, child_counts, InLine, ThingIn}
use Rattle.law_traces.proofs.Keep.{AllHeld, AllKnown, AllBelow, KidsBelow, LineBelow, AllOlder, below_place, kids_below_place, later_held}
use Rattle.law_traces.proofs.Keep.{later_known, NotSlot, Calm, Neat, Rest, calm_next, calm_fed, calm_turn, calm_line}

held_on : (a b : Account) (fs : List Held) → ((k : ℕ) → 1 ≤ held_counts fs k → b.things k ≡ a.things k)
    → ((r : ℕ) → r < a.place → b.pipeline r ≡ a.pipeline r) → a.place ≤ b.place → AllHeld a fs → AllHeld b fs
held_on a b fs t l p h = later_held a b a.place fs t l p (below_place a fs h) h

known_on : (a b : Account) (os : List Kid) → ((k : ℕ) → 1 ≤ child_counts os k → b.feeds k ≡ a.feeds k)
    → ((r : ℕ) → r < a.place → b.pipeline r ≡ a.pipeline r) → a.place ≤ b.place → AllKnown a os → AllKnown b os
known_on a b os t l p h = later_known a b a.place os t l p (kids_below_place a os h) h

pub one_other : (h k : ℕ) → (h ≡ k → ⊥) → one h k ≡ 0
unfolding one
one_other h k ne = rw (ne_eqb h k ne)

-- a call that gives and takes nothing
pub rest_on : {fs : List Held} {os : List Kid} {a : Account} {s : State} (c : Call) → Rest fs os a s → Rest fs os (past (record a { due = next_due a.due c })) s
rest_on {fs = fs} {os = os} {a = a} c n = record {
  due = calm_next fs fs a.due c n.due;
  files = n.files;
  owed = n.owed;
  all_held = held_on a (past (record a { due = next_due a.due c })) fs (λ k h. refl) (λ r h. refl) (omega arith) n.all_held;
  all_known = known_on a (past (record a { due = next_due a.due c })) os (λ k h. refl) (λ r h. refl) (omega arith) n.all_known;
  background = n.background;
}

pub may_call : {fs : List Held} {os : List Kid} {a : Account} {s : State} (c : Call) → Rest fs os a s → Names a c → Apart a c → HandsOver c → Allowed a c
may_call {fs = fs} {a = a} c n m p h = record { names = m; in_turn = calm_turn fs a.due c n.due; apart = p; handed = h }

-- the newest file is closed
pub may_close : {e : Held} {fs : List Held} {os : List Kid} {a : Account} {s : State} → Rest (e ∷ fs) os a s → Allowed a (close e.number)
may_close {e = e} n = may_call (close e.number) n (omega (arith, n.files e.number, one_self e.number)) tt tt

pub rest_close : {e : Held} {fs : List Held} {os : List Kid} {a : Account} {s : State} → Rest (e ∷ fs) os a s → Rest fs os (past (with_call (close e.number) a)) s
rest_close {e = e} {fs = fs} {os = os} {a = a} n = record {
  due = calm_next (e ∷ fs) fs a.due (close e.number) n.due;
  files = λ k. omega (arith, n.files k);
  owed = n.owed;
  all_held = held_on a (past (with_call (close e.number) a)) fs (λ k h. refl) (λ r h. same r) (omega arith) n.all_held.1;
  all_known = known_on a (past (with_call (close e.number) a)) os (λ k h. refl) (λ r h. same r) (omega arith) n.all_known;
  background = n.background;
}
  where
    same : (r : ℕ) → pipeline_after a.due e.number a.things a.pipeline r ≡ a.pipeline r
    same r = ap (λ f. f r) (calm_line e fs a.due a.things a.pipeline n.due)

-- a file is opened
pub rest_file : {fs : List Held} {os : List Kid} {a : Account} {s : State} (c : Call) (h : ℕ) → a.files h ≡ 0 → Rest fs os a s
    → Rest (held h a_file 0 ∷ fs) os (past (add_file (Some h) (record a { due = next_due a.due c }))) s
rest_file {fs = fs} {os = os} {a = a} c h fresh n = record {
  due = calm_next fs (held h a_file 0 ∷ fs) a.due c n.due;
  files = λ k. omega (arith, n.files k);
  owed = n.owed;
  all_held = (record { is = put_self a.things h a_file; in_line = tt }, held_on a (past (add_file (Some h) (record a { due = next_due a.due c }))) fs other (λ r l. refl) (omega arith) n.all_held);
  all_known = known_on a (past (add_file (Some h) (record a { due = next_due a.due c }))) os (λ k l. refl) (λ r l. refl) (omega arith) n.all_known;
  background = n.background;
}
  where
    other : (k : ℕ) → 1 ≤ held_counts fs k → put a.things h a_file k ≡ a.things k
    other k c = put_other a.things h a_file k (λ e. let f = subst (λ x. a.files x ≡ 0) e fresh in absurd (omega (arith, n.files k)))

-- a pipe is made
abbrev paired : Account → ℕ → ℕ → Account
paired a r w = past (add_pair (Some (r, w)) (record a { due = next_due a.due make_pipe }))

pub neat_pair : {fs : List Held} {os : List Kid} {a : Account} {s : State} (r w : ℕ) → a.files r ≡ 0 → a.files w ≡ 0 → r ≢ w → Rest fs os a s
    → Neat (λ d. d ≡ made a.place w) (held w (write_end a.place) a.place ∷ held r (read_end a.place) a.place ∷ fs) os (past (add_pair (Some (r, w)) (record a { due = next_due a.due make_pipe }))) s
neat_pair {fs = fs} {os = os} {a = a} r w fr fw ne n = record {
  due = refl;
  files = λ k. omega (arith, n.files k);
  owed = n.owed;
  all_held = (
    record { is = put_self _ w _; in_line = here_line },
    (
      record { is = put_other _ w _ r (λ e. ne (sym e)) ∙ put_self a.things r (read_end a.place); in_line = here_line },
      held_on a (paired a r w) fs other lines (omega arith) n.all_held,
    ),
  );
  all_known = known_on a (paired a r w) os (λ k l. refl) lines (omega arith) n.all_known;
  background = n.background;
}
  where
    here_line : InLine (paired a r w) a.place a.place
    here_line = record { is = put_self a.pipeline a.place a.place; past = omega arith; old = omega arith }

    lines : (q : ℕ) → q < a.place → put a.pipeline a.place a.place q ≡ a.pipeline q
    lines q l = put_other a.pipeline a.place a.place q (λ e. absurd (omega arith))

    other : (k : ℕ) → 1 ≤ held_counts fs k → put (put a.things r (read_end a.place)) w (write_end a.place) k ≡ a.things k
    other k c =
        put_other _ w _ k (λ e. let f = subst (λ x. a.files x ≡ 0) e fw in absurd (omega (arith, n.files k))) ∙ put_other a.things r
        (read_end a.place) k (λ e. let f = subst (λ x. a.files x ≡ 0) e fr in absurd (omega (arith, n.files k)))

-- a child is started
kid_fresh : {P : Due → Type 0} {fs : List Held} {os : List Kid} {a : Account} {s : State} (c : ℕ) → a.owed c ≡ 0 → Neat P fs os a s → (k : ℕ) → 1 ≤ child_counts os k → c ≡ k → ⊥
kid_fresh {os = os} {a = a} c fresh n k h e = let f = subst (λ x. a.owed x ≡ 0) e fresh in absurd (omega (arith, n.owed k))

back_fresh : {P : Due → Type 0} {fs : List Held} {os : List Kid} {a : Account} {s : State} (c : ℕ) → a.owed c ≡ 0 → Neat P fs os a s → (k : ℕ) → 1 ≤ counts s.background k → c ≡ k → ⊥
back_fresh {os = os} {a = a} c fresh n k h e = let f = subst (λ x. a.owed x ≡ 0) e fresh in absurd (omega (arith, n.owed k))

abbrev with_kid : Account → Launch → ℕ → Account
with_kid a l c = past (add_owed (Some c) (with_call (start l) a))

pub rest_child : {fs : List Held} {os : List Kid} {a : Account} {s : State} (l : Launch) (c : ℕ) → a.owed c ≡ 0 → Rest fs os a s
    → Rest fs (kid_of c alone ∷ os) (past (add_owed (Some c) (with_call (start l) a))) s
rest_child {fs = fs} {os = os} {a = a} l c fresh n = record {
  due = calm_next fs fs a.due (start l) n.due;
  files = n.files;
  owed = λ k. omega (arith, n.owed k);
  all_held = held_on a (with_kid a l c) fs (λ k l. refl) (λ r l. refl) (omega arith) n.all_held;
  all_known =
      (put_self a.feeds c _ ∙ calm_fed fs a.due (start l) n.due, known_on a (with_kid a l c) os (λ k h. put_other a.feeds c _ k (kid_fresh c fresh n k h)) (λ r l. refl) (omega arith) n.all_known);
  background = λ k h. put_other a.feeds c _ k (back_fresh c fresh n k h) ∙ n.background k h;
}

-- a child is started for a pipe that was just made
pub neat_used : {fs : List Held} {os : List Kid} {a : Account} {s : State} (p w : ℕ) (l : Launch) → Neat (λ d. d ≡ made p w) fs os a s
    → Neat (λ d. d ≡ used p w l.slots.input) fs os (past (with_call (start l) a)) s
neat_used {fs = fs} {os = os} {a = a} p w l n = record {
  due = ap (λ d. next_due d (start l)) n.due;
  files = n.files;
  owed = n.owed;
  all_held = held_on a (past (with_call (start l) a)) fs (λ k h. refl) (λ r h. refl) (omega arith) n.all_held;
  all_known = known_on a (past (with_call (start l) a)) os (λ k h. refl) (λ r h. refl) (omega arith) n.all_known;
  background = n.background;
}

pub neat_kid : {fs : List Held} {os : List Kid} {a : Account} {s : State} (p w g : ℕ) (l : Launch) (c : ℕ) → a.owed c ≡ 0 → InLine a p g → Neat (λ d. d ≡ made p w) fs os a s
    → Neat (λ d. d ≡ used p w l.slots.input) fs (kid_of c (of_line p g) ∷ os) (past (add_owed (Some c) (with_call (start l) a))) s
neat_kid {fs = fs} {os = os} {a = a} p w g l c fresh i n = record {
  due = ap (λ d. next_due d (start l)) n.due;
  files = n.files;
  owed = λ k. omega (arith, n.owed k);
  all_held = held_on a (with_kid a l c) fs (λ k l. refl) (λ r l. refl) (omega arith) n.all_held;
  all_known = (
    (put_self a.feeds c _ ∙ ap (λ d. fed (next_due d (start l))) n.due, record { is = i.is; past = omega (arith, i.past); old = omega (arith, i.old) }),
    known_on a
        (with_kid a l c) os (λ k h. put_other a.feeds c _ k (kid_fresh c fresh n k h)) (λ r l. refl) (omega arith) n.all_known,
  );
  background = λ k h. put_other a.feeds c _ k (back_fresh c fresh n k h) ∙ n.background k h;
}

-- the write end is closed: of a pipe for which nothing was started, and of one for which something was
pub may_close_due : {P : Due → Type 0} {e : Held} {fs : List Held} {os : List Kid} {a : Account} {s : State}
    → ((d : Due) → P d → InTurn d (close e.number)) → Neat P (e ∷ fs) os a s → Allowed a (close e.number)
may_close_due {e = e} {a = a} t n = record { names = omega (arith, n.files e.number, one_self e.number); in_turn = t a.due n.due; apart = tt; handed = tt }

neat_close_due : {P Q : Due → Type 0} {e : Held} {fs : List Held} {os : List Kid} {a : Account} {s : State} → Q (next_due a.due (close e.number))
    → ((r : ℕ) → pipeline_after a.due e.number a.things a.pipeline r ≡ a.pipeline r) → Neat P (e ∷ fs) os a s
    → Neat Q fs os (past (with_call (close e.number) a)) s
neat_close_due {e = e} {fs = fs} {os = os} {a = a} q same n = record {
  due = q;
  files = λ k. omega (arith, n.files k);
  owed = n.owed;
  all_held = held_on a (past (with_call (close e.number) a)) fs (λ k h. refl) (λ r h. same r) (omega arith) n.all_held.1;
  all_known = known_on a (past (with_call (close e.number) a)) os (λ k h. refl) (λ r h. same r) (omega arith) n.all_known;
  background = n.background;
}

pub rest_unused : {p w g : ℕ} {fs : List Held} {os : List Kid} {a : Account} {s : State} → Neat (λ d. d ≡ made p w) (held w (write_end p) g ∷ fs) os a s → Rest fs os (past (with_call (close w) a)) s
rest_unused {p = p} {w = w} {g = g} {fs = fs} {a = a} n =
    neat_close_due {Q = Calm fs} {e = held w (write_end p) g} (subst (λ d. Calm fs (next_due d (close w))) (sym n.due) tt)
    (λ r. ap (λ d. pipeline_after d w a.things a.pipeline r) n.due) n

pub neat_passed : {p w g : ℕ} {i : Slot} {fs : List Held} {os : List Kid} {a : Account} {s : State}
    → Neat (λ d. d ≡ used p w i) (held w (write_end p) g ∷ fs) os a s → Neat (λ d. d ≡ passed p i) fs os (past (with_call (close w) a)) s
neat_passed {p = p} {w = w} {g = g} {i = i} {fs = fs} {a = a} n =
    neat_close_due {Q = λ d. d ≡ passed p i} {e = held w (write_end p) g} (ap (λ d. next_due d (close w)) n.due)
    (λ r. ap (λ d. pipeline_after d w a.things a.pipeline r) n.due) n

pub rest_passed : {p : ℕ} {i : Slot} {e : Held} {fs : List Held} {os : List Kid} {a : Account} {s : State} → NotSlot i e.number → Neat (λ d. d ≡ passed p i) (e ∷ fs) os a s → Rest (e ∷ fs) os a s
rest_passed {e = e} {fs = fs} t n = record { due = subst (Calm (e ∷ fs)) (sym n.due) t; files = n.files; owed = n.owed; all_held = n.all_held; all_known = n.all_known; background = n.background }

-- the read end before it is closed, and the new pipe comes to its pipeline
pub rest_join : {p q r h g c : ℕ} {fs : List Held} {os : List Kid} {a : Account} {s : State} → q < p → AllBelow p fs → KidsBelow p os
    → Neat (λ d. d ≡ passed p (to_file h)) (held r (read_end p) p ∷ held h (read_end q) g ∷ fs) (kid_of c (of_line p p) ∷ os) a s
    → Rest (held r (read_end p) g ∷ fs) (kid_of c (of_line p g) ∷ os) (past (with_call (close h) a)) s
rest_join {p = p} {q = q} {r = r} {h = h} {g = g} {c = c} {fs = fs} {os = os} {a = a} lt below kids n = record {
  due = subst (λ d. Calm (held r (read_end p) g ∷ fs) (next_due d (close h))) (sym n.due) tt;
  files = λ k. omega (arith, n.files k);
  owed = n.owed;
  all_held = (record { is = n.all_held.0.is; in_line = new_line }, later_held a (past (with_call (close h) a)) p fs (λ k t. refl) other (omega arith) below n.all_held.1.1);
  all_known = ((n.all_known.0.0, new_line), later_known a (past (with_call (close h) a)) p os (λ k t. refl) other (omega arith) kids n.all_known.1);
  background = n.background;
}
  where
    same : pipeline_after a.due h a.things a.pipeline ≡ put a.pipeline p (a.pipeline q)
    same = ap (λ d. pipeline_after d h a.things a.pipeline) n.due ∙ (rw (eq-eqb h h refl) (ap (λ t. joins p t a.pipeline) n.all_held.1.0.is))

    new_line : InLine (past (with_call (close h) a)) p g
    new_line = record {
      is = ap (λ f. f p) same ∙ (put_self a.pipeline p (a.pipeline q) ∙ n.all_held.1.0.in_line.is);
      past = omega
          (arith, n.all_held.0.in_line.past);
      old = omega (arith, n.all_held.1.0.in_line.old);
    }

    other : (k : ℕ) → k < p → pipeline_after a.due h a.things a.pipeline k ≡ a.pipeline k
    other k l = ap (λ f. f k) same ∙ put_other a.pipeline p (a.pipeline q) k (λ e. absurd (omega arith))

-- the read end before it is closed, and the new pipe stays a pipeline of its own
pub rest_apart : {p q r h g : ℕ} {i : Slot} {fs : List Held} {os : List Kid} {a : Account} {s : State} → NotSlot i h
    → Neat (λ d. d ≡ passed p i) (held r (read_end p) p ∷ held h (read_end q) g ∷ fs) os a s → Rest (held r (read_end p) p ∷ fs) os (past (with_call (close h) a)) s
rest_apart {p = p} {q = q} {r = r} {h = h} {g = g} {i = i} {fs = fs} {os = os} {a = a} t n = record {
  due = subst (λ d. Calm (held r (read_end p) p ∷ fs) (next_due d (close h))) (sym n.due) tt;
  files = λ k. omega (arith, n.files k);
  owed = n.owed;
  all_held = held_on a (past (with_call (close h) a)) (held r (read_end p) p ∷ fs) (λ k l. refl) (λ k l. same k) (omega arith) (n.all_held.0, n.all_held.1.1);
  all_known = known_on a (past (with_call (close h) a)) os (λ k l. refl) (λ k l. same k) (omega arith) n.all_known;
  background = n.background;
}
  where
    same : (k : ℕ) → pipeline_after a.due h a.things a.pipeline k ≡ a.pipeline k
    same k = ap (λ d. pipeline_after d h a.things a.pipeline k) n.due ∙ ap (λ f. f k) (calm_line (held h (read_end q) g) fs (passed p i) a.things a.pipeline t)

-- a child is waited for
pub rest_wait : {e : Kid} {fs : List Held} {os : List Kid} {a : Account} {s : State} → Rest fs (e ∷ os) a s → Rest fs os (past (with_call (wait e.number) a)) s
rest_wait {e = e} {fs = fs} {os = os} {a = a} n = record {
  due = calm_next fs fs a.due (wait e.number) n.due;
  files = n.files;
  owed = λ k. omega (arith, n.owed k);
  all_held = held_on a (past (with_call (wait e.number) a)) fs (λ k h. refl) (λ r h. refl) (omega arith) n.all_held;
  all_known = known_on a (past (with_call (wait e.number) a)) os (λ k h. refl) (λ r h. refl) (omega arith) n.all_known.1;
  background = n.background;
}

-- what is held is of other pipelines, where all of these are older
elsewhere : (a : Account) (g h : ℕ) (fs : List Held) → AllHeld a fs → AllOlder g fs → 1 ≤ held_counts fs h → Elsewhere a g (a.things h)
elsewhere a g h [] k o m = absurd (omega arith)
elsewhere a g h (e ∷ es) k o m = elim (eqb_tells e.number h) [
  | inl t ↦ subst (Elsewhere a g) (sym (subst (λ x. a.things x ≡ e.thing) t.1 k.0.is)) (one e.thing e.pipeline k.0.in_line o.0)
  | inr t ↦ let z = one_other e.number h t.1 in elsewhere a g h es k.1 o.1 (omega arith)
]
  where
    one : (t : Thing) (l : ℕ) → ThingIn a t l → LineBelow g t l → Elsewhere a g t
    one a_file l i b = tt
    one (read_end q) l i b = omega (arith, i.is)
    one (write_end q) l i b = omega (arith, i.is)

-- and of later ones
pub older_from : (g l : ℕ) (es : List Held) → g ≤ l → AllOlder g es → AllOlder l es
older_from g l [] le o = tt
older_from g l (e ∷ es) le o = (one e.thing o.0, older_from g l es le o.1)
  where
    one : (t : Thing) → LineBelow g t e.pipeline → LineBelow l t e.pipeline
    one a_file b = tt
    one (read_end q) b = omega arith
    one (write_end q) b = omega arith

owes : {P : Due → Type 0} {e : Kid} {fs : List Held} {os : List Kid} {a : Account} {s : State} → Neat P fs (e ∷ os) a s → 1 ≤ a.owed e.number
owes {e = e} n = omega (arith, n.owed e.number, one_self e.number)

pub may_wait_alone : {c : ℕ} {fs : List Held} {os : List Kid} {a : Account} {s : State} → Rest fs (kid_of c alone ∷ os) a s → Allowed a (wait c)
may_wait_alone {c = c} {a = a} n = may_call (wait c) n (owes n) (subst (NoneHeld a) (sym n.all_known.0) tt) tt

pub may_wait_line : {c p g : ℕ} {fs : List Held} {os : List Kid} {a : Account} {s : State} → AllOlder g fs → Rest fs (kid_of c (of_line p g) ∷ os) a s → Allowed a (wait c)
may_wait_line {c = c} {p = p} {g = g} {fs = fs} {a = a} old n =
    may_call (wait c) n (owes n)
    (subst (NoneHeld a) (sym n.all_known.0.0) (λ h m. subst (λ l. Elsewhere a l (a.things h)) (sym n.all_known.0.1.is) (elsewhere a g h fs n.all_held old (omega (arith, n.files h))))) tt

pub may_wait_last : {e : Kid} {os : List Kid} {a : Account} {s : State} → Rest [] (e ∷ os) a s → Allowed a (wait e.number)
may_wait_last {e = e} {a = a} n = may_call (wait e.number) n (owes n) (none (a.feeds e.number)) tt
  where
    none : (o : Option ℕ) → NoneHeld a o
    none None = tt
    none (Some p) = λ h m. absurd (omega (arith, n.files h))
