-- A process has a pending call exactly where it hasn't ended, and only one.
use Rattle.std.proofs.Common.{◌≡◌, ℕ, ◌≤◌, inl, inr, List, [], ◌∷◌, ◌++◌, sym, ap, ◌∙◌, subst, arith}
use Rattle.std.proofs.lemmas.Bool.{cases_lt}
use Rattle.rc_model.specs.Run.Calls.{Call, Answer, calls, answers}
use Rattle.rc_model.specs.Run.Plans.{Played, Ends, Waits, calls_made}
use Rattle.rc_model.specs.Run.State.{State}
use Rattle.rc_model.specs.Run.Script.{script, Within}
use Rattle.rc_model.specs.Family.Family.{Process, IsPending, HasEnded}

-- with more turns nothing changes but a cut
abbrev pub GoesOn : Process → Type 0
GoesOn p = (n m : ℕ) → n ≤ m → Within (script n p.tree p.state (answers p.trace)) (script m p.tree p.state (answers p.trace))

waits_on : (p q : Played State) (made : List Call) → p ≡ Waits made → Within p q → q ≡ Waits made
waits_on p q made e g = subst (λ r. Within r q) e g

ends_on : (p q : Played State) (made : List Call) (t : State) (left : List Answer) → p ≡ Ends made t left → Within p q → q ≡ Ends made t left
ends_on p q made t left e g = subst (λ r. Within r q) e g

pub one_outcome : (p : Process) → GoesOn p → (c : Call) → IsPending p c → HasEnded p → ⊥
one_outcome p g c w e = elim (cases_lt w.0 e.1.0) [
  | inl l ↦ let a = waits_on (script w.0 p.tree p.state (answers p.trace)) (script e.1.0 p.tree p.state (answers p.trace)) _ w.1 (g w.0 e.1.0 (omega arith)) in absurd (cc (a, e.1.1))
  | inr l ↦ let a = ends_on (script e.1.0 p.tree p.state (answers p.trace)) (script w.0 p.tree p.state (answers p.trace)) _ _ _ e.1.1 (g e.1.0 w.0 l) in absurd (cc (a, w.1))
]

last_same : (l : List Call) (c d : Call) → l ++ c ∷ [] ≡ l ++ d ∷ [] → c ≡ d
last_same [] c d e = cc
last_same (x ∷ l) c d e = last_same l c d (let t : l ++ c ∷ [] ≡ l ++ d ∷ [] = cc in t)

pub one_pending : (p : Process) → GoesOn p → (c d : Call) → IsPending p c → IsPending p d → c ≡ d
one_pending p g c d w v = elim (cases_lt w.0 v.0) [
  | inl l ↦ let a =
      waits_on (script w.0 p.tree p.state (answers p.trace)) (script v.0 p.tree p.state (answers p.trace)) _ w.1
      (g w.0 v.0 (omega arith)) in last_same (calls p.trace) c d (ap calls_made (sym a ∙ v.1))
  | inr l ↦ let a =
      waits_on (script v.0 p.tree p.state (answers p.trace)) (script w.0 p.tree p.state (answers p.trace)) _ v.1 (g v.0 w.0 l) in sym
      (last_same (calls p.trace) d c (ap calls_made (sym a ∙ w.1)))
]
