-- From plans to traces.
use Rattle.std.proofs.Common.{◌≡◌, inl, inr, ℕ, ◌-◌, ◌≤◌, List, [], ◌∷◌, ◌++◌, Option, Some, None, Bool, true, false, refl, sym, ap, ◌∙◌, subst, arith}
use Rattle.std.specs.Prelude.{if◌then◌else◌}
use Rattle.std.proofs.lemmas.Bool.Decides.{eqb_tells}
use Rattle.rc_model.specs.Run.Calls.{Call, Answer, Event, Launch, open_file, here, make_pipe, close, read, write, start, wait, list_names, probe}
use Rattle.rc_model.specs.Run.Calls.{change_dir, refused, as_file, as_pair, as_child, taken_as, WantsFile, WantsPair, WantsChild, fitting, is_halt}
use Rattle.rc_model.specs.Run.Calls.{calls, answers}
use Rattle.rc_model.specs.declared.call.Fault.{Fault}
use Rattle.rc_model.specs.declared.call.Fault.TheVariants.{NoMemory}
use Rattle.rc_model.specs.Run.Plans.{Plan, done_with, ask, cut, Played, Ends, Waits, Cut, play, after_call, calls_made}
use Rattle.rc_model.specs.Syntax.Tree.{Node, cmd}
use Rattle.rc_model.specs.Run.State.{State}
use Rattle.rc_model.specs.Run.Script.{whole, EndsAsMeant, IsBegunAsMeant}
use Rattle.rc_model.specs.Family.Accounts.{Thing, a_file, read_end, write_end, Due, free, made, used, passed, Account, one, put, next_due, with_call}
use Rattle.rc_model.specs.Family.Accounts.{add_file, add_pair, add_owed, past, after, NewFile, NewPair, NewChild, Fresh, FreshFrom, InTurn, Allowed}
use Rattle.rc_model.specs.Family.Accounts.{AllAllowed, at_start, account, IsFresh, Settled, IsDue, OneWriteEnd, AllOneWriteEnd, NothingLost}
use Rattle.rc_model.specs.Family.Accounts.{NothingLeft}
use Rattle.law_traces.proofs.Keep.{Keeps, one_self, put_self, put_other}
use Rattle.law_traces.proofs.Steps.{one_other}
use Rattle.law_traces.proofs.Cmds.{keeps_whole}

-- an answer that doesn't fit gives nothing
no_file : (f : Fault) → as_file (taken_as WantsFile (refused f)) ≡ None
no_file NoMemory = refl
no_file _ = refl

file_fits : (x : Answer) → as_file (taken_as WantsFile x) ≡ as_file x
file_fits (refused f) = no_file f
file_fits _ = refl

no_pair : (f : Fault) → as_pair (taken_as WantsPair (refused f)) ≡ None
no_pair NoMemory = refl
no_pair _ = refl

pair_fits : (x : Answer) → as_pair (taken_as WantsPair x) ≡ as_pair x
pair_fits (refused f) = no_pair f
pair_fits _ = refl

no_child : (f : Fault) → as_child (taken_as WantsChild (refused f)) ≡ None
no_child NoMemory = refl
no_child _ = refl

child_fits : (x : Answer) → as_child (taken_as WantsChild x) ≡ as_child x
child_fits (refused f) = no_child f
child_fits _ = refl

pub after_fits : (a : Account) (c : Call) (x : Answer) → after a c (fitting c x) ≡ after a c x
after_fits a (open_file p m) x = ap (λ o. past (add_file o (with_call (open_file p m) a))) (file_fits x)
after_fits a (here t) x = ap (λ o. past (add_file o (with_call (here t) a))) (file_fits x)
after_fits a make_pipe x = ap (λ o. past (add_pair o (with_call make_pipe a))) (pair_fits x)
after_fits a (start l) x = ap (λ o. past (add_owed o (with_call (start l) a))) (child_fits x)
after_fits a _ x = refl

pub fresh_fits : (a : Account) (c : Call) (x : Answer) → Fresh a c x → Fresh a c (fitting c x)
fresh_fits a (open_file p m) x f = subst (λ o. NewFile o a) (sym (file_fits x)) f
fresh_fits a (here t) x f = subst (λ o. NewFile o a) (sym (file_fits x)) f
fresh_fits a make_pipe x f = subst (λ o. NewPair o a) (sym (pair_fits x)) f
fresh_fits a (start l) x f = subst (λ o. NewChild o a) (sym (child_fits x)) f
fresh_fits a _ x f = f

pub made_after : {X : Type 0} (c : Call) (r : Played X) → calls_made (after_call c r) ≡ c ∷ calls_made r
made_after c (Ends calls x left) = refl
made_after c (Waits calls) = refl
made_after c (Cut calls) = refl

-- what is kept of a plan holds of each trace that is begun as the plan says
allowed_first : (a : Account) (c d : Call) (es : List Event) (rest : List Call) → c ∷ [] ≡ d ∷ (calls es ++ rest) → Allowed a c → (b : Account) → Allowed a d × AllAllowed b es
allowed_first a c d [] rest e k b = (let same : c ≡ d = cc in subst (Allowed a) same k, tt)
allowed_first a c d (x ∷ es) rest e k b = absurd cc

begun_more : {X : Type 0} (a : Account) (c : Call) (go : Answer → Plan X) (Q : Account → X → Type 0) (d : Call) (x : Answer) (vs : List Event) (rest : List Call)
    → ((p : Plan X) (b : Account) → FreshFrom b vs → Keeps b p Q → calls_made (play p (answers vs)) ≡ calls vs ++ rest → AllAllowed b vs)
    → Fresh a d x × FreshFrom (after a d x) vs → Keeps a (ask c go) Q → c ∷ calls_made (play (go (fitting c x)) (answers vs)) ≡ d ∷ (calls vs ++ rest) → Allowed a d × AllAllowed (after a d x) vs
begun_more a c go Q d x vs rest ih f k e =
    let same : c ≡ d = cc in
    let more : calls_made (play (go (fitting c x)) (answers vs)) ≡ calls vs ++ rest = cc in
    let g = subst (λ y. Fresh a y x × FreshFrom (after a y x) vs) (sym same) f in
    let kept = k.1 (fitting c x) (fresh_fits a c x g.0) in
    subst (λ y. Allowed a y × AllAllowed (after a y x) vs) same
    (k.0, ih (go (fitting c x)) (after a c x) g.1 (subst (λ b. Keeps b (go (fitting c x)) Q) (after_fits a c x) kept) more)

begun_by : {X : Type 0} (a : Account) (c : Call) (go : Answer → Plan X) (Q : Account → X → Type 0) (d : Call) (x : Answer) (vs : List Event) (rest : List Call)
    → ((p : Plan X) (b : Account) → FreshFrom b vs → Keeps b p Q → calls_made (play p (answers vs)) ≡ calls vs ++ rest → AllAllowed b vs)
    → Fresh a d x × FreshFrom (after a d x) vs → Keeps a (ask c go) Q → (b : Bool) → is_halt x ≡ b → calls_made
    (play (ask c go) (if b then [] else x ∷ answers vs)) ≡ d ∷ (calls vs ++ rest) → Allowed a d × AllAllowed (after a d x) vs
begun_by a c go Q d x vs rest ih f k true h e = allowed_first a c d vs rest e k.0 (after a d x)
begun_by a c go Q d x vs rest ih f k false h e =
    begun_more a c go Q d x vs rest ih f k (sym (made_after c (play (go (fitting c x)) (answers vs))) ∙ (rw h at e))

pub kept_begun : {X : Type 0} (Q : Account → X → Type 0) (trace : List Event) (rest : List Call) (p : Plan X) (a : Account) → FreshFrom a trace
    → Keeps a p Q → calls_made (play p (answers trace)) ≡ calls trace ++ rest → AllAllowed a trace
kept_begun Q [] rest p a f k e = tt
kept_begun Q (v ∷ vs) rest (done_with x) a f k e = absurd cc
kept_begun Q (v ∷ vs) rest cut a f k e = absurd cc
kept_begun Q (v ∷ vs) rest (ask c go) a f k e = begun_by a c go Q v.call v.answer vs rest (kept_begun Q vs rest) f k (is_halt v.answer) refl e

-- where the plan ends, over all of the answers
ends_inv : {X : Type 0} (c : Call) (cs : List Call) (x : X) (r : Played X) → after_call c r ≡ Ends cs x [] → (ds : List Call) × (cs ≡ c ∷ ds) × (r ≡ Ends ds x [])
ends_inv c cs x (Ends ds y left) e = (ds, cc, cc)
ends_inv c cs x (Waits calls) e = absurd cc
ends_inv c cs x (Cut calls) e = absurd cc

ended_by : {X : Type 0} (a : Account) (c : Call) (go : Answer → Plan X) (Q : Account → X → Type 0) (d : Call) (x : Answer) (vs : List Event) (t : X)
    → ((p : Plan X) (b : Account) → FreshFrom b vs → Keeps b p Q → play p (answers vs) ≡ Ends (calls vs) t [] → Q (account b vs) t)
    → Fresh a d x × FreshFrom (after a d x) vs → Keeps a (ask c go) Q → (b : Bool) → is_halt x ≡ b → play (ask c go)
    (if b then [] else x ∷ answers vs) ≡ Ends (d ∷ calls vs) t [] → Q (account (after a d x) vs) t
ended_by a c go Q d x vs t ih f k true h e = absurd cc
ended_by a c go Q d x vs t ih f k false h e =
    let r = play (go (fitting c x)) (answers vs) in
    let e2 : after_call c (play (go (fitting c x)) (answers vs)) ≡ Ends (d ∷ calls vs) t [] = rw h at e in
    let w = ends_inv c (d ∷ calls vs) t (play (go (fitting c x)) (answers vs)) e2 in
    let same : c ≡ d = cc (w.1) in
    let tail : w.0 ≡ calls vs = cc (w.1) in
    let g = subst (λ y. Fresh a y x × FreshFrom (after a y x) vs) (sym same) f in
    let kept = k.1 (fitting c x) (fresh_fits a c x g.0) in
    subst (λ y. Q (account (after a y x) vs) t) same
    (ih (go (fitting c x)) (after a c x) g.1 (subst (λ b. Keeps b (go (fitting c x)) Q) (after_fits a c x) kept) (w.2 ∙ ap (λ l. Ends l t []) tail))

pub kept_ended : {X : Type 0} (Q : Account → X → Type 0) (trace : List Event) (t : X) (p : Plan X) (a : Account) → FreshFrom a trace → Keeps a p Q
    → play p (answers trace) ≡ Ends (calls trace) t [] → Q (account a trace) t
kept_ended Q [] t (done_with x) a f k e = let same : x ≡ t = cc in subst (Q a) same k
kept_ended Q [] t (ask c go) a f k e = absurd cc
kept_ended Q [] t cut a f k e = absurd cc
kept_ended Q (v ∷ vs) t (done_with x) a f k e = absurd cc
kept_ended Q (v ∷ vs) t cut a f k e = absurd cc
kept_ended Q (v ∷ vs) t (ask c go) a f k e = ended_by a c go Q v.call v.answer vs t (kept_ended Q vs t) f k (is_halt v.answer) refl e

-- at most one write end
abbrev NotEnd : Call → Type 0
NotEnd (close h) = ⊥
NotEnd (start l) = ⊥
NotEnd c = Unit {0}

quiet : (d : Due) (c : Call) → NotEnd c → InTurn d c → (p h : ℕ) → IsDue p h d → ⊥
quiet free c n t p h i = i
quiet (passed q j) c n t p h i = i
quiet (made q w) (close k) n t p h i = absurd n
quiet (made q w) (start l) n t p h i = absurd n
quiet (made q w) _ n t p h i = absurd t
quiet (used q w j) (close k) n t p h i = absurd n
quiet (used q w j) (start l) n t p h i = absurd n
quiet (used q w j) _ n t p h i = absurd t

-- a call that changes no files
one_quiet : (a b : Account) (c : Call) → NotEnd c → InTurn a.due c → ((k : ℕ) → b.files k ≡ a.files k) → ((k : ℕ) → b.things k ≡ a.things k) → OneWriteEnd a → OneWriteEnd b
one_quiet a b c n t f th o = record {
  only = λ h p m e. absurd (quiet a.due c n t p h (o.only h p (omega (arith, f h)) (sym (th h) ∙ e)));
  once = λ h. omega (arith, f h, o.once h);
}

one_close : (a : Account) (h : ℕ) → InTurn a.due (close h) → 1 ≤ a.files h → (d : Due)
    → ((k p : ℕ) → 1 ≤ a.files k → a.things k ≡ write_end p → IsDue p k a.due) → OneWriteEnd a → OneWriteEnd (past (with_call (close h) a))
one_close a h t m d only o = record {
  only = λ k p n e. absurd (gone a.due t k p (o.only k p (omega arith) e) n);
  once = λ k. omega (arith, o.once k);
}
  where
    away : (k : ℕ) → h ≡ k → 1 ≤ a.files k - one h k → ⊥
    away k e n = let z = subst (λ j. one h j ≡ 1) e (one_self h) in absurd (omega (arith, o.once k))

    gone : (d : Due) → InTurn d (close h) → (k p : ℕ) → IsDue p k d → 1 ≤ a.files k - one h k → ⊥
    gone free t k p i n = i
    gone (passed q j) t k p i n = i
    gone (made q w) t k p i n = away k (t ∙ i.1) n
    gone (used q w j) t k p i n = away k (t ∙ i.1) n

one_start : (a : Account) (l : Launch) (o : Option ℕ) → InTurn a.due (start l) → OneWriteEnd a → OneWriteEnd (past (add_owed o (with_call (start l) a)))
one_start a l o t w = kid o
  where
    next : (d : Due) → InTurn d (start l) → (p h : ℕ) → IsDue p h d → IsDue p h (next_due d (start l))
    next free t p h i = absurd i
    next (passed q j) t p h i = absurd i
    next (made q v) t p h i = i
    next (used q v j) t p h i = absurd t

    kid : (o : Option ℕ) → OneWriteEnd (past (add_owed o (with_call (start l) a)))
    kid (Some c) = record { only = λ h p m e. next a.due t p h (w.only h p m e); once = w.once }
    kid None = record { only = λ h p m e. next a.due t p h (w.only h p m e); once = w.once }

one_file : (a : Account) (c : Call) (o : Option ℕ) → NotEnd c → InTurn a.due c → NewFile o a → OneWriteEnd a → OneWriteEnd (past (add_file o (record a { due = next_due a.due c })))
one_file a c None n t f w = one_quiet a (past (record a { due = next_due a.due c })) c n t (λ k. refl) (λ k. refl) w
one_file a c (Some h) n t f w = record {
  only = λ k p m e. absurd (elim (eqb_tells h k) [
    | inl y ↦ file_no_end p (subst (λ j. put a.things h a_file j ≡ a_file) y.1 (put_self a.things h a_file)) e
    | inr y ↦ let z = one_other h k y.1 in quiet a.due c n t p k (w.only k p (omega arith) (sym (put_other a.things h a_file k y.1) ∙ e))
  ]);
  once = λ k. elim (eqb_tells h k) [
    | inl y ↦ let z = subst (λ j. a.files j ≡ 0) y.1 f in let u = subst (λ j. one h j ≡ 1) y.1 (one_self h) in omega arith
    | inr y ↦ let z = one_other h k y.1 in omega (arith, w.once k)
  ];
}
  where
    file_no_end : {t : Thing} (p : ℕ) → t ≡ a_file → t ≡ write_end p → ⊥
    file_no_end p e f = absurd cc

one_pair : (a : Account) (o : Option (ℕ × ℕ)) → InTurn a.due make_pipe → NewPair o a → OneWriteEnd a → OneWriteEnd (past (add_pair o (with_call make_pipe a)))
one_pair a None t f v = one_quiet a (past (with_call make_pipe a)) make_pipe tt t (λ k. refl) (λ k. refl) v
one_pair a (Some (r, w)) t f v = record {
  only = λ k p m e. elim (eqb_tells w k) [
    | inl y ↦ (same p (sym (subst (λ j. put (put a.things r (read_end a.place)) w (write_end a.place) j ≡ write_end a.place) y.1 (put_self _ w (write_end a.place))) ∙ e), y.1)
    | inr y ↦ absurd (elim (eqb_tells r k) [
      | inl z ↦ not_read p (subst (λ j. put a.things r (read_end a.place) j ≡ read_end a.place) z.1 (put_self a.things r (read_end a.place))) (sym (put_other _ w _ k y.1) ∙ e)
      | inr z ↦ let m2 =
          one_other w k y.1 in let m3 = one_other r k z.1 in quiet a.due make_pipe tt t p k
          (v.only k p (omega arith) (sym (put_other a.things r _ k z.1) ∙ (sym (put_other _ w _ k y.1) ∙ e)))
    ])
  ];
  once = λ k. elim (eqb_tells w k) [
    | inl y ↦ let z = subst (λ j. a.files j ≡ 0) y.1 f.1 in let u = subst (λ j. one w j ≡ 1) y.1 (one_self w) in let n = one_other r k (λ q. f.2 (q ∙ sym y.1)) in omega arith
    | inr y ↦ let z = one_other w k y.1 in elim (eqb_tells r k) [
      | inl q ↦ let x = subst (λ j. a.files j ≡ 0) q.1 f.0 in let u = subst (λ j. one r j ≡ 1) q.1 (one_self r) in omega arith
      | inr q ↦ let u = one_other r k q.1 in omega (arith, v.once k)
    ]
  ];
}
  where
    same : (p : ℕ) → write_end a.place ≡ write_end p → a.place ≡ p
    same p e = cc

    not_read : {t : Thing} (p : ℕ) → t ≡ read_end a.place → t ≡ write_end p → ⊥
    not_read p e g = absurd cc

pub one_next : (a : Account) (c : Call) (x : Answer) → Allowed a c → Fresh a c x → OneWriteEnd a → OneWriteEnd (after a c x)
one_next a (open_file p m) x k f w = one_file a (open_file p m) (as_file x) tt k.in_turn f w
one_next a (here t) x k f w = one_file a (here t) (as_file x) tt k.in_turn f w
one_next a make_pipe x k f w = one_pair a (as_pair x) k.in_turn f w
one_next a (close h) x k f w = one_close a h k.in_turn k.names a.due w.only w
one_next a (start l) x k f w = one_start a l (as_child x) k.in_turn w
one_next a (read h) x k f w = one_quiet a (after a (read h) x) (read h) tt k.in_turn (λ i. refl) (λ i. refl) w
one_next a (write to t) x k f w = one_quiet a (after a (write to t) x) (write to t) tt k.in_turn (λ i. refl) (λ i. refl) w
one_next a (wait c) x k f w = one_quiet a (after a (wait c) x) (wait c) tt k.in_turn (λ i. refl) (λ i. refl) w
one_next a (list_names p) x k f w = one_quiet a (after a (list_names p) x) (list_names p) tt k.in_turn (λ i. refl) (λ i. refl) w
one_next a (probe p) x k f w = one_quiet a (after a (probe p) x) (probe p) tt k.in_turn (λ i. refl) (λ i. refl) w
one_next a (change_dir p) x k f w = one_quiet a (after a (change_dir p) x) (change_dir p) tt k.in_turn (λ i. refl) (λ i. refl) w

all_one : (trace : List Event) (a : Account) → FreshFrom a trace → AllAllowed a trace → OneWriteEnd a → AllOneWriteEnd a trace
all_one [] a f k w = w
all_one (e ∷ es) a f k w = (w, all_one es (after a e.call e.answer) f.1 k.1 (one_next a e.call e.answer k.0 f.0 w))

pub one_start_account : (s : State) → OneWriteEnd (at_start s)
one_start_account s = record { only = λ h p m e. absurd (omega arith); once = λ h. omega arith }

-- the laws
pub begun_loses_nothing : (c : Node cmd) (s : State) (trace : List Event) → IsBegunAsMeant c s trace → IsFresh s trace → NothingLost s trace
begun_loses_nothing c s trace b f =
    let k = kept_begun Settled trace b.1.rest (whole b.0 c s) (at_start s) f.fresh (keeps_whole b.0 c s) b.1.is in
    record { each_call = k; one_write_end = all_one trace (at_start s) f.fresh k (one_start_account s) }

pub ended_leaves_nothing : (c : Node cmd) (s : State) (trace : List Event) (t : State) → EndsAsMeant c s trace t → IsFresh s trace → NothingLeft s trace t
ended_leaves_nothing c s trace t e f = kept_ended Settled trace t (whole e.0 c s) (at_start s) f.fresh (keeps_whole e.0 c s) e.1
