-- A process and its limit.
use Rattle.std.proofs.Common.{◌≡◌, ◌⊎◌, inl, inr, ℕ, ◌+◌, ◌≤◌, List, [], ◌∷◌, ◌++◌, refl, sym, ◌∙◌, subst, arith}
use Rattle.rc_model.specs.Run.Calls.{Call, Answer, calls, answers}
use Rattle.rc_model.specs.Run.Plans.{IsAnswered, Played, Ends, Waits, Cut}
use Rattle.rc_model.specs.Run.Script.{run, script, Within}
use Rattle.rc_model.specs.Run.State.{State}
use Rattle.rc_model.specs.Code.Machine.{exec, begin}
use Rattle.rc_model.specs.Family.Family.{Process, IsPending, HasEnded, GoesAsMeant, recorded}
use Rattle.rc_model.specs.Family.Steps.{HitsLimit, WaitsInTime, EndsInTime, IsInTime, IsCutShort}
use Rattle.law_machine.proofs.Ends.{agrees}
use Rattle.law_machine.proofs.Turns.{turns_go_on}
use Rattle.law_family.proofs.Outcome as outcome
use Rattle.law_family.proofs.Answered.{Came, waits, ends, is_cut, begins, answered}

-- by code and by meaning
meant_within : (limit : ℕ) (p : Process) (q : Played State) → run limit p.tree p.state (answers p.trace) ≡ q
    → (n : ℕ) × Within q (script n p.tree p.state (answers p.trace))
meant_within limit p q e =
    let m = (agrees p.tree p.state (answers p.trace)).code_means limit in
    (m.0, subst (λ r. Within r (script m.0 p.tree p.state (answers p.trace))) e m.1)

pub pending_of : (limit : ℕ) (p : Process) (c : Call) → WaitsInTime limit p c → IsPending p c
pending_of limit p c w = meant_within limit p (Waits (calls p.trace ++ c ∷ [])) w

pub ended_of : (limit : ℕ) (p : Process) → EndsInTime limit p → HasEnded p
ended_of limit p e = (e.0, meant_within limit p (Ends (calls p.trace) e.0 []) e.1)

pub meant_of : (limit : ℕ) (p : Process) → IsInTime limit p → GoesAsMeant p
meant_of limit p (inl w) = inl (w.0, pending_of limit p w.0 w.1)
meant_of limit p (inr e) = inr (ended_of limit p e)

pub not_both : (p : Process) (c : Call) → IsPending p c → HasEnded p → ⊥
not_both p = outcome.one_outcome p (turns_go_on p.tree p.state (answers p.trace))

pub one_pending : (p : Process) (c d : Call) → IsPending p c → IsPending p d → c ≡ d
one_pending p = outcome.one_pending p (turns_go_on p.tree p.state (answers p.trace))

-- a pending call of a process that is in time
pub waits_of : (limit : ℕ) (p : Process) (c : Call) → IsInTime limit p → IsPending p c → WaitsInTime limit p c
waits_of limit p c (inl w) i = subst (WaitsInTime limit p) (one_pending p w.0 c (pending_of limit p w.0 w.1) i) w.1
waits_of limit p c (inr e) i = absurd (not_both p c i (ended_of limit p e))

by_came : (limit : ℕ) (p : Process) → Came (exec limit (begin p.tree p.state)) p.trace → IsInTime limit p ⊎ HitsLimit limit p
by_came limit p (waits d h) = inl (inl (d, h))
by_came limit p (ends t h) = inl (inr (t, h))
by_came limit p (is_cut h) = inr h

-- a process that is in time, with the answer to its call
pub with_answer : (limit : ℕ) (p : Process) (c : Call) (x : Answer) → WaitsInTime limit p c → IsAnswered c x
    → IsInTime limit (recorded p c x) ⊎ HitsLimit limit (recorded p c x)
with_answer limit p c x w a = by_came limit (recorded p c x) (answered (exec limit (begin p.tree p.state)) p.trace c x a w)

-- a process that was not answered anything
pub at_beginning : (limit : ℕ) (p : Process) → p.trace ≡ [] → IsInTime limit p ⊎ HitsLimit limit p
at_beginning limit p e = by_came limit p (subst (Came (exec limit (begin p.tree p.state))) (sym e) (begins (exec limit (begin p.tree p.state))))

-- it is not both in time and cut short
pub not_cut : (limit : ℕ) (p : Process) → IsInTime limit p → IsCutShort limit p → ⊥
not_cut limit p (inl w) k = let e : Waits (calls p.trace ++ w.0 ∷ []) ≡ Cut k.0 = sym w.1 ∙ k.1 in absurd cc
not_cut limit p (inr t) k = let e : Ends (calls p.trace) t.0 [] ≡ Cut k.0 = sym t.1 ∙ k.1 in absurd cc

pub not_hit : (limit : ℕ) (p : Process) → IsInTime limit p → HitsLimit limit p → ⊥
not_hit limit p t h = not_cut limit p t (calls p.trace, h)

-- ** where no process is known to be in time

-- with a greater limit nothing changes but a cut
goes_on : (p : Process) (m k : ℕ) → m ≤ k → Within (run m p.tree p.state (answers p.trace)) (run k p.tree p.state (answers p.trace))
goes_on p m k le = (agrees p.tree p.state (answers p.trace)).code_goes_on m k le

was_cut : (q r : Played State) (made : List Call) → Within q r → r ≡ Cut made → (before : List Call) × (q ≡ Cut before)
was_cut (Ends cs t left) r made w e = absurd (let k : Ends cs t left ≡ Cut made = sym w ∙ e in cc)
was_cut (Waits cs) r made w e = absurd (let k : Waits cs ≡ Cut made = sym w ∙ e in cc)
was_cut (Cut cs) r made w e = (cs, refl)

waits_on : (q r : Played State) (made : List Call) → q ≡ Waits made → Within q r → r ≡ Waits made
waits_on q r made e w = subst (λ z. Within z r) e w

-- some number of instructions comes to a pending call
in_some_time : (p : Process) (c : Call) → IsPending p c → (m : ℕ) × WaitsInTime m p c
in_some_time p c i =
    let m = (agrees p.tree p.state (answers p.trace)).meaning_runs i.0 in
    (m.0, waits_on (script i.0 p.tree p.state (answers p.trace)) (run m.0 p.tree p.state (answers p.trace)) (calls p.trace ++ c ∷ []) i.1 m.1)

pub answered_means : (limit : ℕ) (p : Process) (c : Call) (x : Answer) → IsPending p c → IsAnswered c x
    → (IsCutShort limit (recorded p c x) → ⊥) → GoesAsMeant (recorded p c x)
answered_means limit p c x i a n =
    let m = in_some_time p c i in
    let w = waits_on (run m.0 p.tree p.state (answers p.trace)) (run (m.0 + limit) p.tree p.state (answers p.trace)) (calls p.trace ++ c ∷ []) m.1 (goes_on p m.0 (m.0 + limit) (omega arith)) in
    let q = recorded p c x in
    elim (with_answer (m.0 + limit) p c x w a) [
      | inl t ↦ meant_of (m.0 + limit) (recorded p c x) t
      | inr h ↦ absurd (n (was_cut (run limit q.tree q.state (answers q.trace)) (run (m.0 + limit) q.tree q.state (answers q.trace)) (calls q.trace) (goes_on q limit (m.0 + limit) (omega arith)) h))
    ]

pub beginning_means : (limit : ℕ) (p : Process) → p.trace ≡ [] → (IsCutShort limit p → ⊥) → GoesAsMeant p
beginning_means limit p e n = elim (at_beginning limit p e) [ inl t ↦ meant_of limit p t | inr h ↦ absurd (n (calls p.trace, h)) ]
