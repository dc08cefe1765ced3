-- Fresh answers of a script, and fresh answers of a trace.
use Rattle.std.proofs.Common.{◌≡◌, ℕ, List, [], ◌∷◌, ◌++◌, Bool, true, false, refl, sym, ◌∙◌, subst}
use Rattle.std.specs.Prelude.{if◌then◌else◌}
use Rattle.rc_model.specs.Run.Calls.{Call, Answer, Event, refused, open_file, here, make_pipe, start, fitting, is_halt, calls, answers}
use Rattle.rc_model.specs.declared.call.Fault.TheVariants.{Halt}
use Rattle.rc_model.specs.Run.Plans.{Plan, done_with, ask, cut, play, calls_made}
use Rattle.rc_model.specs.Syntax.Tree.{Node, cmd}
use Rattle.rc_model.specs.Run.State.{State}
use Rattle.rc_model.specs.Run.Script.{whole, script, IsPrefix}
use Rattle.rc_model.specs.Family.Accounts.{Account, after, Fresh, FreshFrom, Unless, FreshAnswers, AreFreshAnswers, at_start, IsFresh}
use Rattle.law_traces.proofs.Traces.{made_after}

halt_is : (x : Answer) → is_halt x ≡ true → x ≡ refused Halt
halt_is (refused Halt) e = refl
halt_is (refused _) e = absurd cc
halt_is _ e = absurd cc

pub halt_fresh : (a : Account) (c : Call) → Fresh a c (refused Halt)
halt_fresh a (open_file p m) = tt
halt_fresh a (here t) = tt
halt_fresh a make_pipe = tt
halt_fresh a (start l) = tt
halt_fresh a _ = tt

-- the answers that a script takes are those of the events
fresh_by : {X : Type 0} (a : Account) (c : Call) (go : Answer → Plan X) (d : Call) (x : Answer) (vs : List Event) (rest : List Call)
    → ((p : Plan X) (b : Account) → FreshAnswers b p (answers vs) → calls_made (play p (answers vs)) ≡ calls vs ++ rest → FreshFrom b vs)
    → (b : Bool) → is_halt x ≡ b → FreshAnswers a (ask c go) (if b then [] else x ∷ answers vs) → calls_made
    (play (ask c go) (if b then [] else x ∷ answers vs)) ≡ d ∷ (calls vs ++ rest) → Fresh a d x × FreshFrom (after a d x) vs
fresh_by a c go d x [] rest ih true h f e = (subst (Fresh a d) (sym (halt_is x h)) (halt_fresh a d), tt)
fresh_by a c go d x (v ∷ vs) rest ih true h f e = absurd cc
fresh_by a c go d x vs rest ih false h f e =
    let e2 : c ∷ calls_made (play (go (fitting c x)) (answers vs)) ≡ d ∷ (calls vs ++ rest) = sym (made_after c (play (go (fitting c x)) (answers vs))) ∙ (rw h at e) in
    let same : c ≡ d = cc (e2) in
    let more : calls_made (play (go (fitting c x)) (answers vs)) ≡ calls vs ++ rest = cc (e2) in
    let g : Fresh a c x × FreshAnswers (after a c x) (go (fitting c x)) (answers vs) = subst (λ b. Unless b (Fresh a c x × FreshAnswers (after a c x) (go (fitting c x)) (answers vs))) h f in
    subst (λ y. Fresh a y x × FreshFrom (after a y x) vs) same (g.0, ih (go (fitting c x)) (after a c x) g.1 more)

trace_fresh : {X : Type 0} (trace : List Event) (rest : List Call) (p : Plan X) (a : Account) → FreshAnswers a p (answers trace)
    → calls_made (play p (answers trace)) ≡ calls trace ++ rest → FreshFrom a trace
trace_fresh [] rest p a f e = tt
trace_fresh (v ∷ vs) rest (done_with x) a f e = absurd cc
trace_fresh (v ∷ vs) rest cut a f e = absurd cc
trace_fresh (v ∷ vs) rest (ask c go) a f e = fresh_by a c go v.call v.answer vs rest (trace_fresh vs rest) (is_halt v.answer) refl f e

answers_by : {X : Type 0} (a : Account) (c : Call) (go : Answer → Plan X) (d : Call) (x : Answer) (vs : List Event) (rest : List Call)
    → ((p : Plan X) (b : Account) → FreshFrom b vs → calls_made (play p (answers vs)) ≡ calls vs ++ rest → FreshAnswers b p (answers vs))
    → (b : Bool) → is_halt x ≡ b → Fresh a d x × FreshFrom (after a d x) vs → calls_made (play (ask c go) (if b then [] else x ∷ answers vs)) ≡ d ∷
    (calls vs ++ rest) → FreshAnswers a (ask c go) (if b then [] else x ∷ answers vs)
answers_by a c go d x vs rest ih true h f e = tt
answers_by a c go d x vs rest ih false h f e =
    let e2 : c ∷ calls_made (play (go (fitting c x)) (answers vs)) ≡ d ∷ (calls vs ++ rest) = sym (made_after c (play (go (fitting c x)) (answers vs))) ∙ (rw h at e) in
    let same : c ≡ d = cc (e2) in
    let more : calls_made (play (go (fitting c x)) (answers vs)) ≡ calls vs ++ rest = cc (e2) in
    let g = subst (λ y. Fresh a y x × FreshFrom (after a y x) vs) (sym same) f in
    subst (λ b. Unless b (Fresh a c x × FreshAnswers (after a c x) (go (fitting c x)) (answers vs))) (sym h) (g.0, ih (go (fitting c x)) (after a c x) g.1 more)

fresh_trace : {X : Type 0} (trace : List Event) (rest : List Call) (p : Plan X) (a : Account) → FreshFrom a trace
    → calls_made (play p (answers trace)) ≡ calls trace ++ rest → FreshAnswers a p (answers trace)
fresh_trace [] rest (ask c go) a f e = tt
fresh_trace [] rest (done_with x) a f e = tt
fresh_trace [] rest cut a f e = tt
fresh_trace (v ∷ vs) rest (done_with x) a f e = absurd cc
fresh_trace (v ∷ vs) rest cut a f e = absurd cc
fresh_trace (v ∷ vs) rest (ask c go) a f e = answers_by a c go v.call v.answer vs rest (fresh_trace vs rest) (is_halt v.answer) refl f e

-- where a trace is begun as the script means, its answers are fresh exactly where they are fresh for the script
pub fresh_alike : (n : ℕ) (c : Node cmd) (s : State) (trace : List Event) → IsPrefix (calls trace) (calls_made (script n c s (answers trace)))
    → (AreFreshAnswers n c s (answers trace) → IsFresh s trace) × (IsFresh s trace → AreFreshAnswers n c s (answers trace))
fresh_alike n c s trace p = (
  λ f. record { differ = f.differ; fresh = trace_fresh trace p.rest (whole n c s) (at_start s) f.fresh p.is },
  λ f. record { differ = f.differ; fresh = fresh_trace trace p.rest (whole n c s) (at_start s) f.fresh p.is },
)
