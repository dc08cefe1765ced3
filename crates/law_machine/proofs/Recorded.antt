-- What is recorded of a run of the machine, in words of the meaning.
use Rattle.std.proofs.Common.{◌≡◌, ℕ, List, [], ◌∷◌, ◌++◌, refl, sym, ap, ◌∙◌, subst}
use Rattle.std.proofs.lemmas.List.{append-nil}
use Rattle.rc_model.specs.Run.Calls.{Call, Answer, refused, Event, event, answers, calls}
use Rattle.rc_model.specs.declared.call.Fault.TheVariants.{Halt}
use Rattle.rc_model.specs.Syntax.Tree.{Node, cmd}
use Rattle.rc_model.specs.Run.Plans.{Plan, done_with, ask, cut, Played, Ends, Waits, Cut, Goes, calls_made}
use Rattle.rc_model.specs.Run.State.{State}
use Rattle.rc_model.specs.Code.Machine.{exec, begin}
use Rattle.rc_model.specs.Run.Script.{script, run, Within, EndsAsMeant, HaltsAsMeant, IsBegunAsMeant, StopsAtLimit}
use Rattle.law_machine.proofs.Ends.{agrees}
use Rattle.law_plans.proofs.Plays.{ends_over, waits_over, cut_over, halts_over}

-- what the code comes to, is within what some turns mean
meant_within : (m : ℕ) (c : Node cmd) (s : State) (given : List Answer) (p : Played State) → run m c s given ≡ p → (n : ℕ) × Within p (script n c s given)
meant_within m c s given p e =
    let means = (agrees c s given).code_means m in
    (means.0, subst (λ q. Within q (script means.0 c s given)) e means.1)

-- a run to the end of the script
pub ended_as_meant : (m : ℕ) (c : Node cmd) (s t : State) (trace : List Event) → Goes (exec m (begin c s)) trace (done_with t) → EndsAsMeant c s trace t
ended_as_meant m c s t trace g = meant_within m c s (answers trace) (Ends (calls trace) t []) (ends_over (exec m (begin c s)) trace t g)

-- a run whose last call was not answered
pub halted_as_meant : (m : ℕ) (c : Node cmd) (s : State) (before : List Event) (call : Call) (go : Answer → Plan State)
    → Goes (exec m (begin c s)) before (ask call go) → HaltsAsMeant c s (before ++ event call (refused Halt) ∷ [])
halted_as_meant m c s before call go g =
    let trace = before ++ event call (refused Halt) ∷ [] in
    let waits = meant_within m c s (answers trace) (Waits (calls trace)) (halts_over (exec m (begin c s)) before call go g) in
    record { before = before; call = call; unanswered = refl; turns = waits.0; waits = waits.1 }

-- a run whose instructions were used up
pub cut_as_meant : (m : ℕ) (c : Node cmd) (s : State) (trace : List Event) → Goes (exec m (begin c s)) trace cut → IsBegunAsMeant c s trace
cut_as_meant m c s trace g = meant_within m c s (answers trace) (Cut (calls trace)) (cut_over (exec m (begin c s)) trace g)

pub stopped_at_limit : (limit : ℕ) (c : Node cmd) (s : State) (trace : List Event) → Goes (exec limit (begin c s)) trace cut → StopsAtLimit limit c s trace
stopped_at_limit limit c s trace g = record { ran = cut_over (exec limit (begin c s)) trace g; begun = cut_as_meant limit c s trace g }

-- a run that was left somewhere
pub begun_as_meant : (m : ℕ) (c : Node cmd) (s : State) (trace : List Event) (p : Plan State) → Goes (exec m (begin c s)) trace p → IsBegunAsMeant c s trace
begun_as_meant m c s trace (done_with t) g =
    let meant = ended_as_meant m c s t trace g in
    (meant.0, record { rest = []; is = ap calls_made meant.1 ∙ sym (append-nil (calls trace)) })
begun_as_meant m c s trace (ask call go) g =
    let waits = meant_within m c s (answers trace) (Waits (calls trace ++ call ∷ [])) (waits_over (exec m (begin c s)) trace call go g) in
    (waits.0, record { rest = call ∷ []; is = ap calls_made waits.1 })
begun_as_meant m c s trace cut g = cut_as_meant m c s trace g
