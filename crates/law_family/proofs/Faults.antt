-- A step of a family is refused for one reason at most.
use Rattle.std.proofs.Common.{refl, subst, arith}
use Rattle.rc_model.specs.Run.Calls.{Call, Answer, answers}
use Rattle.rc_model.specs.Run.Plans.{IsAnswered}
use Rattle.rc_model.specs.Family.Family.{Process, IsPending, HasEnded}
use Rattle.rc_model.specs.Family.Steps.{NoProcess, AtEnd, WrongKind, AtLimit}
use Rattle.law_family.specs.StepLaws.{OneFault}
use Rattle.law_family.proofs.Outcome.{one_outcome, one_pending}
use Rattle.law_machine.proofs.Turns.{turns_go_on}

not_both : (p : Process) (c : Call) → IsPending p c → HasEnded p → ⊥
not_both p = one_outcome p (turns_go_on p.tree p.state (answers p.trace))

not_wrong : (p : Process) (x : Answer) (c d : Call) → IsPending p c → (IsAnswered c x → ⊥) → IsPending p d → IsAnswered d x → ⊥
not_wrong p x c d w n v a = n (subst (λ e. IsAnswered e x) (one_pending p (turns_go_on p.tree p.state (answers p.trace)) d c v w) a)

pub one_fault : OneFault
one_fault reads limit f k x NoProcess NoProcess r s = refl
one_fault reads limit f k x NoProcess AtEnd r s = let l = s.0 in absurd (omega arith)
one_fault reads limit f k x NoProcess WrongKind r s = let l = s.0 in absurd (omega arith)
one_fault reads limit f k x NoProcess AtLimit r s = let l = s.0 in absurd (omega arith)
one_fault reads limit f k x AtEnd NoProcess r s = let l = r.0 in absurd (omega arith)
one_fault reads limit f k x AtEnd AtEnd r s = refl
one_fault reads limit f k x AtEnd WrongKind r s = absurd (not_both (f.at k) s.1.0 s.1.1 r.1)
one_fault reads limit f k x AtEnd AtLimit r s = absurd (not_both (f.at k) s.1.0 s.1.1 r.1)
one_fault reads limit f k x WrongKind NoProcess r s = let l = r.0 in absurd (omega arith)
one_fault reads limit f k x WrongKind AtEnd r s = absurd (not_both (f.at k) r.1.0 r.1.1 s.1)
one_fault reads limit f k x WrongKind WrongKind r s = refl
one_fault reads limit f k x WrongKind AtLimit r s = absurd (not_wrong (f.at k) x r.1.0 s.1.0 r.1.1 r.1.2 s.1.1 s.1.2)
one_fault reads limit f k x AtLimit NoProcess r s = let l = r.0 in absurd (omega arith)
one_fault reads limit f k x AtLimit AtEnd r s = absurd (not_both (f.at k) r.1.0 r.1.1 s.1)
one_fault reads limit f k x AtLimit WrongKind r s = absurd (not_wrong (f.at k) x s.1.0 r.1.0 s.1.1 s.1.2 r.1.1 r.1.2)
one_fault reads limit f k x AtLimit AtLimit r s = refl
