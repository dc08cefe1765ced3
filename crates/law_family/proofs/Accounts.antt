-- The account of a process: after one event more, and where the process goes as it is meant.
use Rattle.std.proofs.Common.{◌≡◌, inl, inr, ℕ, suc, ◌<◌, List, [], ◌∷◌, ◌++◌, Option, Some, None, refl, sym, ap, ◌∙◌, subst, arith}
use Rattle.std.specs.Prelude.{if◌then◌else◌}
use Rattle.std.proofs.lemmas.Bool.Decides.{eqb_tells}
use Rattle.rc_model.specs.Run.Calls.{Call, Answer, Event, event, open_file, here, make_pipe, close, read, write, start, wait, list_names, probe}
use Rattle.rc_model.specs.Run.Calls.{change_dir, refused, as_file, as_pair, as_child, is_halt, calls, answers}
use Rattle.rc_model.specs.declared.call.Fault.TheVariants.{Halt}
use Rattle.std.proofs.lemmas.List.{append-nil}
use Rattle.rc_model.specs.Run.Plans.{play, calls_made}
use Rattle.rc_model.specs.Run.Script.{whole, IsBegunAsMeant}
use Rattle.rc_model.specs.Family.Accounts.{Settled, NothingLost, Due, free, made, used, passed, Account, put, next_due, with_call, add_file, add_pair}
use Rattle.rc_model.specs.Family.Accounts.{add_owed, past, after, Fresh, FreshFrom, Allowed, AllAllowed, account, at_start, IsFresh, OneWriteEnd}
use Rattle.rc_model.specs.Family.Family.{Process, holding, IsPending, GoesAsMeant}
use Rattle.law_traces.proofs.Keep.{put_self, put_other}
use Rattle.law_traces.proofs.Cmds.{keeps_whole}
use Rattle.law_traces.proofs.Fresh.{halt_fresh}
use Rattle.law_traces.proofs.Traces.{one_next, one_start_account, kept_begun, begun_loses_nothing}

-- Accounts of one event more.
pub account_on : (a : Account) (es : List Event) (e : Event) → account a (es ++ e ∷ []) ≡ after (account a es) e.call e.answer
account_on a [] e = refl
account_on a (d ∷ es) e = account_on (after a d.call d.answer) es e

pub allowed_on : (a : Account) (es : List Event) (e : Event) → AllAllowed a (es ++ e ∷ []) → AllAllowed a es × Allowed (account a es) e.call
allowed_on a [] e k = (tt, k.0)
allowed_on a (d ∷ es) e k = let m = allowed_on (after a d.call d.answer) es e k.1 in ((k.0, m.0), m.1)

pub fresh_on : (a : Account) (es : List Event) (e : Event) → FreshFrom a (es ++ e ∷ []) → FreshFrom a es × Fresh (account a es) e.call e.answer
fresh_on a [] e k = (tt, k.0)
fresh_on a (d ∷ es) e k = let m = fresh_on (after a d.call d.answer) es e k.1 in ((k.0, m.0), m.1)

no_made : (d : Due) (c : Call) (q w : ℕ) → next_due d c ≡ made q w → ⊥
no_made free c q w e = absurd cc
no_made (passed p i) c q w e = absurd cc
no_made (made p v) (start l) q w e = absurd cc
no_made (made p v) _ q w e = absurd cc
no_made (used p v i) (close h) q w e = absurd cc
no_made (used p v i) _ q w e = absurd cc

-- a pair that was just made is of the place before
pub newest : (a : Account) (c : Call) (x : Answer) (q w : ℕ) → (after a c x).due ≡ made q w → q ≡ a.place
newest a (open_file p m) x q w e = by_file (as_file x) e
  where
    by_file : (o : Option ℕ) → (add_file o (with_call (open_file p m) a)).due ≡ made q w → q ≡ a.place
    by_file (Some h) e = absurd (no_made a.due (open_file p m) q w e)
    by_file None e = absurd (no_made a.due (open_file p m) q w e)
newest a (here t) x q w e = by_file (as_file x) e
  where
    by_file : (o : Option ℕ) → (add_file o (with_call (here t) a)).due ≡ made q w → q ≡ a.place
    by_file (Some h) e = absurd (no_made a.due (here t) q w e)
    by_file None e = absurd (no_made a.due (here t) q w e)
newest a make_pipe x q w e = by_pair (as_pair x) e
  where
    by_pair : (o : Option (ℕ × ℕ)) → (add_pair o (with_call make_pipe a)).due ≡ made q w → q ≡ a.place
    by_pair (Some (r, v)) e = cc
    by_pair None e = absurd (no_made a.due make_pipe q w e)
newest a (start l) x q w e = by_child (as_child x) e
  where
    by_child : (o : Option ℕ) → (add_owed o (with_call (start l) a)).due ≡ made q w → q ≡ a.place
    by_child (Some h) e = absurd (no_made a.due (start l) q w e)
    by_child None e = absurd (no_made a.due (start l) q w e)
newest a (close h) x q w e = absurd (no_made a.due (close h) q w e)
newest a (read h) x q w e = absurd (no_made a.due (read h) q w e)
newest a (write to t) x q w e = absurd (no_made a.due (write to t) q w e)
newest a (wait c) x q w e = absurd (no_made a.due (wait c) q w e)
newest a (list_names p) x q w e = absurd (no_made a.due (list_names p) q w e)
newest a (probe p) x q w e = absurd (no_made a.due (probe p) q w e)
newest a (change_dir p) x q w e = absurd (no_made a.due (change_dir p) q w e)

pub place_on : (a : Account) (c : Call) (x : Answer) → (after a c x).place ≡ suc a.place
place_on a (open_file p m) x = by_file (as_file x)
  where
    by_file : (o : Option ℕ) → (past (add_file o (with_call (open_file p m) a))).place ≡ suc a.place
    by_file (Some h) = refl
    by_file None = refl
place_on a (here t) x = by_file (as_file x)
  where
    by_file : (o : Option ℕ) → (past (add_file o (with_call (here t) a))).place ≡ suc a.place
    by_file (Some h) = refl
    by_file None = refl
place_on a make_pipe x = by_pair (as_pair x)
  where
    by_pair : (o : Option (ℕ × ℕ)) → (past (add_pair o (with_call make_pipe a))).place ≡ suc a.place
    by_pair (Some (r, w)) = refl
    by_pair None = refl
place_on a (start l) x = by_child (as_child x)
  where
    by_child : (o : Option ℕ) → (past (add_owed o (with_call (start l) a))).place ≡ suc a.place
    by_child (Some k) = refl
    by_child None = refl
place_on a (close h) x = refl
place_on a (read h) x = refl
place_on a (write to t) x = refl
place_on a (wait c) x = refl
place_on a (list_names p) x = refl
place_on a (probe p) x = refl
place_on a (change_dir p) x = refl

-- what is known of an account
pub record Good (a : Account) : Type 0 where
  pub one : OneWriteEnd a
  pub below : (q w : ℕ) → a.due ≡ made q w → q < a.place

good_next : (a : Account) (c : Call) (x : Answer) → Allowed a c → Fresh a c x → Good a → Good (after a c x)
good_next a c x k f g = record { one = one_next a c x k f g.one; below = λ q w e. let s = newest a c x q w e in let t = place_on a c x in omega arith }

good_all : (trace : List Event) (a : Account) → FreshFrom a trace → AllAllowed a trace → Good a → Good (account a trace)
good_all [] a f k g = g
good_all (e ∷ es) a f k g = good_all es (after a e.call e.answer) f.1 k.1 (good_next a e.call e.answer k.0 f.0 g)

-- a process of which all calls are allowed, over fresh answers
abbrev pub Sound : Process → Type 0
Sound p = FreshFrom (at_start p.state) p.trace × AllAllowed (at_start p.state) p.trace

pub sound_good : (p : Process) → Sound p → Good (holding p)
sound_good p s = good_all p.trace (at_start p.state) s.0 s.1 (record { one = one_start_account p.state; below = λ q w e. absurd cc })

pub put_field : {Y : Type 0} (g : Process → Y) (f : ℕ → Process) (k : ℕ) (p : Process) → g p ≡ g (f k) → (j : ℕ) → g (put f k p j) ≡ g (f j)
put_field g f k p e j = elim (eqb_tells k j) [
  | inl y ↦ subst (λ i. g (put f k p i) ≡ g (f i)) y.1 (ap g (put_self f k p) ∙ e)
  | inr y ↦ ap g (put_other f k p j y.1)
]

-- From what each process means.
no_halt : (es : List Event) (c : Call) → answers (es ++ event c (refused Halt) ∷ []) ≡ answers es
no_halt [] c = refl
no_halt (e ∷ es) c = ap (λ l. if is_halt e.answer then [] else e.answer ∷ l) (no_halt es c)

calls_on : (es : List Event) (c : Call) → calls (es ++ event c (refused Halt) ∷ []) ≡ calls es ++ c ∷ []
calls_on [] c = refl
calls_on (e ∷ es) c = ap (λ l. e.call ∷ l) (calls_on es c)

fresh_halt : (es : List Event) (a : Account) (c : Call) → FreshFrom a es → FreshFrom a (es ++ event c (refused Halt) ∷ [])
fresh_halt [] a c f = (halt_fresh a c, tt)
fresh_halt (e ∷ es) a c f = (f.0, fresh_halt es (after a e.call e.answer) c f.1)

pub pending_allowed : (p : Process) (c : Call) → IsFresh p.state p.trace → IsPending p c → Sound p × Allowed (holding p) c
pending_allowed p c f w =
    let trace = p.trace ++ event c (refused Halt) ∷ [] in
    let fresh = fresh_halt p.trace (at_start p.state) c f.fresh in
    let made : calls_made (play (whole w.0 p.tree p.state) (answers (p.trace ++ event c (refused Halt) ∷ []))) ≡ calls (p.trace ++ event c (refused Halt) ∷ []) ++ [] =
    ap (λ l. calls_made (play (whole w.0 p.tree p.state) l)) (no_halt p.trace c) ∙
    (ap calls_made w.1 ∙ (sym (calls_on p.trace c) ∙ sym (append-nil (calls (p.trace ++ event c (refused Halt) ∷ []))))) in
    let k = kept_begun Settled (p.trace ++ event c (refused Halt) ∷ []) [] (whole w.0 p.tree p.state) (at_start p.state) fresh (keeps_whole w.0 p.tree p.state) made in
    let a = allowed_on (at_start p.state) p.trace (event c (refused Halt)) k in
    ((f.fresh, a.0), a.1)

-- a process that goes as its script means makes the first calls of that
pub begun : (p : Process) → GoesAsMeant p → IsBegunAsMeant p.tree p.state p.trace
begun p (inl w) = (w.1.0, record { rest = w.0 ∷ []; is = ap calls_made w.1.1 })
begun p (inr e) = (e.1.0, record { rest = []; is = ap calls_made e.1.1 ∙ sym (append-nil (calls p.trace)) })

pub meant_nothing_lost : (p : Process) → IsFresh p.state p.trace → GoesAsMeant p → NothingLost p.state p.trace
meant_nothing_lost p f g = begun_loses_nothing p.tree p.state p.trace (begun p g) f

pub meant_sound : (p : Process) → IsFresh p.state p.trace → GoesAsMeant p → Sound p
meant_sound p f (inl w) = (pending_allowed p w.0 f w.1).0
meant_sound p f (inr e) = (f.fresh, (meant_nothing_lost p f (inr e)).each_call)
