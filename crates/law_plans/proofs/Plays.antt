-- What a plan plays over the answers of a run.
use Rattle.std.proofs.Common.{◌≡◌, List, [], ◌∷◌, ◌++◌, refl, sym, ap, ◌∙◌}
use Rattle.std.specs.Prelude.{Bool, false, if◌then◌else◌}
use Rattle.std.proofs.lemmas.List.{append-nil, map-append}
use Rattle.rc_model.specs.Run.Calls.{Call, Answer, refused, Event, event, answers, calls, is_halt, fitting}
use Rattle.rc_model.specs.declared.call.Fault.TheVariants.{Halt}
use Rattle.rc_model.specs.Run.Plans.{Plan, done_with, ask, cut, Played, Ends, Waits, Cut, after_call, play, IsAnswered, Goes}

at_false : {X : Type 0} (b : Bool) (x y : X) → b ≡ false → (if b then x else y) ≡ y
at_false b x y e = ap (λ t. if t then x else y) e

-- an answer that came is among those that were given
given_first : (e : Event) (es : List Event) → is_halt e.answer ≡ false → answers (e ∷ es) ≡ e.answer ∷ answers es
given_first e es came = at_false (is_halt e.answer) [] (e.answer ∷ answers es) came

-- what came is taken by the call
play_first : {X : Type 0} (c : Call) (go : Answer → Plan X) (a : Answer) (rest : List Answer) → IsAnswered c a
    → play (ask c go) (a ∷ rest) ≡ after_call c (play (go a) rest)
play_first c go a rest h =
    at_false (is_halt a) (Waits (c ∷ [])) (after_call c (play (go (fitting c a)) rest)) h.came ∙ ap (λ b. after_call c (play (go b) rest)) h.fits

-- what came of a plan, with these calls before it
abbrev pub preceded : {X : Type 0} → List Call → Played X → Played X
preceded [] p = p
preceded (c ∷ cs) p = after_call c (preceded cs p)

-- over the answers of a run and more, a plan makes the calls of the run and then does what is left of it
pub goes_plays : {X : Type 0} (p : Plan X) (trace : List Event) (q : Plan X) (more : List Answer) → Goes p trace q
    → play p (answers trace ++ more) ≡ preceded (calls trace) (play q more)
goes_plays p [] q more g = ap (λ x. play x more) g
goes_plays (ask c go) (e ∷ es) q more g =
    ap (λ l. play (ask c go) (l ++ more)) (given_first e es g.1.came)
    ∙ (play_first c go e.answer (answers es ++ more) g.1
    ∙ (ap (after_call c) (goes_plays (go e.answer) es q more g.2)
    ∙ ap (λ d. after_call d (preceded (calls es) (play q more))) (sym g.0)))
goes_plays (done_with x) (e ∷ es) q more g = absurd g
goes_plays cut (e ∷ es) q more g = absurd g

-- all answers of a run are given, whatever is recorded after it
pub goes_answers : {X : Type 0} (p : Plan X) (trace : List Event) (q : Plan X) (more : List Event) → Goes p trace q
    → answers (trace ++ more) ≡ answers trace ++ answers more
goes_answers p [] q more g = refl
goes_answers (ask c go) (e ∷ es) q more g =
    given_first e (es ++ more) g.1.came
    ∙ (ap (λ l. e.answer ∷ l) (goes_answers (go e.answer) es q more g.2)
    ∙ ap (λ l. l ++ answers more) (sym (given_first e es g.1.came)))
goes_answers (done_with x) (e ∷ es) q more g = absurd g
goes_answers cut (e ∷ es) q more g = absurd g

-- what comes of the rest of a plan, with the calls before it
pub preceded_ends : {X : Type 0} (made : List Call) (x : X) (left : List Answer) → preceded made (Ends [] x left) ≡ Ends made x left
preceded_ends [] x left = refl
preceded_ends (c ∷ cs) x left = ap (after_call c) (preceded_ends cs x left)

pub preceded_waits : {X : Type 0} (made : List Call) (c : Call) → preceded {X = X} made (Waits (c ∷ [])) ≡ Waits (made ++ c ∷ [])
preceded_waits [] c = refl
preceded_waits (d ∷ ds) c = ap (after_call d) (preceded_waits ds c)

pub preceded_cut : {X : Type 0} (made : List Call) → preceded {X = X} made (Cut []) ≡ Cut made
preceded_cut [] = refl
preceded_cut (c ∷ cs) = ap (after_call c) (preceded_cut cs)

-- over the answers of a run alone
goes_plays_alone : {X : Type 0} (p : Plan X) (trace : List Event) (q : Plan X) → Goes p trace q
    → play p (answers trace) ≡ preceded (calls trace) (play q [])
goes_plays_alone p trace q g = ap (play p) (sym (append-nil (answers trace))) ∙ goes_plays p trace q [] g

-- a run to the end of a plan
pub ends_over : {X : Type 0} (p : Plan X) (trace : List Event) (x : X) → Goes p trace (done_with x) → play p (answers trace) ≡ Ends (calls trace) x []
ends_over p trace x g = goes_plays_alone p trace (done_with x) g ∙ preceded_ends (calls trace) x []

-- a run to a call that waits
pub waits_over : {X : Type 0} (p : Plan X) (trace : List Event) (c : Call) (go : Answer → Plan X) → Goes p trace (ask c go)
    → play p (answers trace) ≡ Waits (calls trace ++ c ∷ [])
waits_over p trace c go g = goes_plays_alone p trace (ask c go) g ∙ preceded_waits (calls trace) c

-- a run to a cut
pub cut_over : {X : Type 0} (p : Plan X) (trace : List Event) → Goes p trace cut → play p (answers trace) ≡ Cut (calls trace)
cut_over p trace g = goes_plays_alone p trace cut g ∙ preceded_cut (calls trace)

-- a run to a call that halts is recorded with it, and plays up to it
pub halts_over : {X : Type 0} (p : Plan X) (before : List Event) (c : Call) (go : Answer → Plan X) → Goes p before (ask c go)
    → play p (answers (before ++ event c (refused Halt) ∷ [])) ≡ Waits (calls (before ++ event c (refused Halt) ∷ []))
halts_over p before c go g =
    ap (play p) (goes_answers p before (ask c go) (event c (refused Halt) ∷ []) g ∙ append-nil (answers before))
    ∙ (waits_over p before c go g
    ∙ ap Waits (sym (map-append (λ e. e.call) before (event c (refused Halt) ∷ []))))
