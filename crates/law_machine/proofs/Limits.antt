-- From some number of instructions on, a run ends or waits.
use Rattle.std.proofs.Common.{◌≡◌, List, [], ◌∷◌, Bool, true, false, refl, sym, ap, ◌∙◌, subst}
use Rattle.rc_model.specs.Run.Calls.{Answer, Call, Event, answers, calls, fitting, is_halt, want}
use Rattle.rc_model.specs.Run.Plans.{Plan, done_with, ask, cut, Played, Ends, Waits, Cut, after_call, play}
use Rattle.rc_model.specs.Run.Script.{Within, run, script}
use Rattle.rc_model.specs.Code.Machine.{exec, begin}
use Rattle.law_machine.specs.Limits.{IsOver, IsRecorded, LimitsEnd, before_halt, SomeAreEnough, EnoughIsNoLimit}
use Rattle.law_machine.proofs.Fitting.{is_taken}
use Rattle.law_machine.proofs.Ends.{agrees}

-- the first call of a plan that was cut, and the others
first_call : {X : Type 0} (c d : Call) (p : Played X) (others : List Call) → after_call c p ≡ Cut (d ∷ others) → (c ≡ d) × (p ≡ Cut others)
first_call c d (Ends rest x left) others h = absurd cc
first_call c d (Waits rest) others h = absurd cc
first_call c d (Cut rest) others h = (cc, cc)

-- a plan that was cut over the answers of a trace is cut over those that were given
cut_given : {X : Type 0} (p : Plan X) (given : List Answer) (trace : List Event)
    → IsRecorded given trace → play p (answers trace) ≡ Cut (calls trace) → play p given ≡ Cut (calls trace)
cut_given (done_with x) given trace from h = absurd cc
cut_given cut given trace from h = h
cut_given (ask c go) given [] from h = absurd cc
cut_given (ask c go) [] (e ∷ trace) from h = absurd from
cut_given (ask c go) (a ∷ given) (e ∷ trace) from h =
    let taken = is_taken (want e.call) a in
    let made : is_halt e.answer ≡ false = ap is_halt from.1 ∙ taken.halts ∙ from.0 in
    let played : after_call c (play (go (fitting c e.answer)) (answers trace)) ≡ Cut (calls (e ∷ trace)) = simp made at h in
    let parts = first_call c e.call (play (go (fitting c e.answer)) (answers trace)) (calls trace) played in
    let same : fitting c e.answer ≡ fitting c a = subst (λ d. fitting d e.answer ≡ fitting d a) (sym parts.0) (ap (fitting e.call) from.1 ∙ taken.again) in
    let cut_there : play (go (fitting c a)) (answers trace) ≡ Cut (calls trace) = subst (λ x. play (go x) (answers trace) ≡ Cut (calls trace)) same parts.1 in
    rw from.0 (ap (after_call c) (cut_given (go (fitting c a)) given trace from.2 cut_there) ∙ ap (λ d. Cut (d ∷ calls trace)) parts.0)

never_cut : {X : Type 0} (p q r : Played X) (made : List Call) → IsOver p → Within p q → Within q r → r ≡ Cut made → ⊥
never_cut (Ends calls x left) q r made over h k e = let same : r ≡ Ends calls x left = subst (λ z. Within z r) h k in cc
never_cut (Waits calls) q r made over h k e = let same : r ≡ Waits calls = subst (λ z. Within z r) h k in cc
never_cut (Cut calls) q r made over h k e = over

pub limits_end : LimitsEnd
limits_end c s given n over =
    let a = agrees c s given in
    let found = a.meaning_runs n in (
      found.0,
      λ limit trace le from stop.
          let ran : run limit c s given ≡ Cut (calls trace) = cut_given (exec limit (begin c s)) given trace from stop.ran in
          never_cut (script n c s given) (run found.0 c s given) (run limit c s given) (calls trace) over found.1 (a.code_goes_on found.0 limit le) ran,
    )

pub some_are_enough : SomeAreEnough
some_are_enough c s given n over =
    let found = (agrees c s given).meaning_runs n in
    (found.0, record { turns = n; over = over; done = found.1 })

-- the first call of a plan that was cut recorded no halt, nor did the others
first_kept : {X : Type 0} (c : Call) (go : Answer → Plan X) (e : Event) (trace : List Event) (halts : Bool) → is_halt e.answer ≡ halts
    → (play (go (fitting c e.answer)) (answers trace) ≡ Cut (calls trace) → before_halt trace ≡ trace)
    → play (ask c go) (answers (e ∷ trace)) ≡ Cut (calls (e ∷ trace)) → before_halt (e ∷ trace) ≡ e ∷ trace
first_kept c go e trace true is kept h = let waits : Waits (c ∷ []) ≡ Cut (calls (e ∷ trace)) = simp is at h in absurd cc
first_kept c go e trace false is kept h =
    let played : after_call c (play (go (fitting c e.answer)) (answers trace)) ≡ Cut (calls (e ∷ trace)) = simp is at h in
    let others = first_call c e.call (play (go (fitting c e.answer)) (answers trace)) (calls trace) played in
    rw is (ap (λ es. e ∷ es) (kept others.1))

-- a plan that was cut recorded no halt
no_halt : {X : Type 0} (p : Plan X) (trace : List Event) → play p (answers trace) ≡ Cut (calls trace) → before_halt trace ≡ trace
no_halt p [] h = refl
no_halt (done_with x) (e ∷ trace) h = absurd cc
no_halt cut (e ∷ trace) h = absurd cc
no_halt (ask c go) (e ∷ trace) h = first_kept c go e trace (is_halt e.answer) refl (no_halt (go (fitting c e.answer)) trace) h

pub enough_is_no_limit : EnoughIsNoLimit
enough_is_no_limit c s given count limit trace enough le on stop =
    let from : IsRecorded given trace = subst (IsRecorded given) (no_halt (exec limit (begin c s)) trace stop.ran) on in
    let ran : run limit c s given ≡ Cut (calls trace) = cut_given (exec limit (begin c s)) given trace from stop.ran in
    let goes_on = (agrees c s given).code_goes_on count limit le in
    never_cut (script enough.turns c s given) (run count c s given) (run limit c s given) (calls trace) enough.over enough.done goes_on ran
