-- What a plan comes to that waits for an answer, when it gets one.
use Rattle.std.proofs.Common.{◌≡◌, ◌⊎◌, inl, inr, List, [], ◌∷◌, ◌++◌, Bool, true, false, length, nat_le, refl, sym, ap, ◌∙◌}
use Rattle.std.specs.Prelude.{if◌then◌else◌}
use Rattle.rc_model.specs.Run.Calls.{Call, Answer, Event, event, calls, answers, fitting, is_halt, want}
use Rattle.rc_model.specs.Run.Calls.{Want, WantsFile, WantsPair, WantsDone, WantsBytes, WantsChild, WantsEnding, WantsNames, WantsKind, taken_as}
use Rattle.rc_model.specs.Run.Calls.{file, pair, done, bytes, child, ended, names, found, refused}
use Rattle.rc_model.specs.declared.call.Fault.{Fault}
use Rattle.rc_model.specs.declared.call.Fault.TheVariants.{NoMemory, Other}
use Rattle.rc_model.specs.Run.Plans.{Plan, done_with, ask, cut, Played, Ends, Waits, Cut, after_call, play, IsAnswered}

-- ** what a plan comes to over the answers of a trace, all of whose calls it makes

pub data Came {X : Type 0} (p : Plan X) (trace : List Event) : Type 0 where
  waits : (d : Call) → play p (answers trace) ≡ Waits (calls trace ++ d ∷ []) → Came p trace
  ends : (x : X) → play p (answers trace) ≡ Ends (calls trace) x [] → Came p trace
  is_cut : play p (answers trace) ≡ Cut (calls trace) → Came p trace

-- over no answers
pub begins : {X : Type 0} (p : Plan X) → Came p []
begins (done_with x) = ends x refl
begins (ask c go) = waits c refl
begins cut = is_cut refl

at_false : {X : Type 0} (b : Bool) (x y : X) → b ≡ false → (if b then x else y) ≡ y
at_false b x y e = ap (λ t. if t then x else y) e

at_true : {X : Type 0} (b : Bool) (x y : X) → b ≡ true → (if b then x else y) ≡ x
at_true b x y e = ap (λ t. if t then x else y) e

-- the first event of a trace
play_first : {X : Type 0} (c : Call) (go : Answer → Plan X) (e : Event) (es : List Event) → is_halt e.answer ≡ false
    → play (ask c go) (answers (e ∷ es)) ≡ after_call c (play (go (fitting c e.answer)) (answers es))
play_first c go e es n =
    ap (play (ask c go)) (at_false (is_halt e.answer) [] (e.answer ∷ answers es) n)
    ∙ at_false (is_halt e.answer) (Waits (c ∷ [])) (after_call c (play (go (fitting c e.answer)) (answers es))) n

play_halt : {X : Type 0} (c : Call) (go : Answer → Plan X) (e : Event) (es : List Event) → is_halt e.answer ≡ true
    → play (ask c go) (answers (e ∷ es)) ≡ Waits (c ∷ [])
play_halt c go e es n = ap (play (ask c go)) (at_true (is_halt e.answer) [] (e.answer ∷ answers es) n)

came_after : {X : Type 0} (c : Call) (go : Answer → Plan X) (e : Event) (es : List Event) → is_halt e.answer ≡ false → c ≡ e.call
    → Came (go (fitting c e.answer)) es → Came (ask c go) (e ∷ es)
came_after c go e es n same (waits d h) = waits d (play_first c go e es n ∙ (ap (after_call c) h ∙ ap (λ k. Waits (k ∷ (calls es ++ d ∷ []))) same))
came_after c go e es n same (ends x h) = ends x (play_first c go e es n ∙ (ap (after_call c) h ∙ ap (λ k. Ends (k ∷ calls es) x []) same))
came_after c go e es n same (is_cut h) = is_cut (play_first c go e es n ∙ (ap (after_call c) h ∙ ap (λ k. Cut (k ∷ calls es)) same))

-- the first call of a plan that waits, and the others
first_waits : {X : Type 0} (c d : Call) (p : Played X) (others : List Call) → after_call c p ≡ Waits (d ∷ others) → (c ≡ d) × (p ≡ Waits others)
first_waits c d (Ends rest x left) others h = absurd cc
first_waits c d (Waits rest) others h = (cc, cc)
first_waits c d (Cut rest) others h = absurd cc

no_end : (l : List Call) (c : Call) → [] ≡ l ++ c ∷ [] → ⊥
no_end [] c e = absurd cc
no_end (d ∷ l) c e = absurd cc

abbrev others_of : {X : Type 0} → Played X → List Call
others_of (Waits (c ∷ cs)) = cs
others_of _ = []

first_call : {X : Type 0} (d c : Call) → ◌≡◌ {A = Played X} (Waits (d ∷ [])) (Waits (c ∷ [])) → d ≡ c
first_call d c h = cc

-- the first event came, or it was a halt, and then the plan waits for it
first_came : {X : Type 0} (d : Call) (go : Answer → Plan X) (e : Event) (es : List Event) (c : Call) (x : Answer) (b : Bool) → is_halt e.answer ≡ b
    → (play (go (fitting d e.answer)) (answers es) ≡ Waits (calls es ++ c ∷ []) → Came (go (fitting d e.answer)) (es ++ event c x ∷ []))
    → play (ask d go) (answers (e ∷ es)) ≡ Waits (e.call ∷ (calls es ++ c ∷ [])) → Came (ask d go) (e ∷ (es ++ event c x ∷ []))
first_came d go e es c x true n others h = absurd (no_end (calls es) c (ap others_of (sym (play_halt d go e es n) ∙ h)))
first_came d go e es c x false n others h =
    let w = first_waits d e.call (play (go (fitting d e.answer)) (answers es)) (calls es ++ c ∷ []) (sym (play_first d go e es n) ∙ h) in
    came_after d go e (es ++ event c x ∷ []) n w.0 (others w.1)

pub answered : {X : Type 0} (p : Plan X) (trace : List Event) (c : Call) (x : Answer) → IsAnswered c x
    → play p (answers trace) ≡ Waits (calls trace ++ c ∷ []) → Came p (trace ++ event c x ∷ [])
answered (done_with y) [] c x a h = absurd cc
answered cut [] c x a h = absurd cc
answered (ask d go) [] c x a h = let same : d ≡ c = first_call d c h in
    came_after d go (event c x) [] a.came same (begins (go (fitting d x)))
answered (done_with y) (e ∷ es) c x a h = absurd cc
answered cut (e ∷ es) c x a h = absurd cc
answered (ask d go) (e ∷ es) c x a h = first_came d go e es c x (is_halt e.answer) refl (answered (go (fitting d e.answer)) es c x a) h

-- ** whether an answer fits a call

refusal_fits : (w : Want) (f : Fault) → (taken_as w (refused f) ≡ refused f) ⊎ (taken_as w (refused f) ≡ refused f → ⊥)
refusal_fits WantsFile NoMemory = inr (λ e. absurd cc)
refusal_fits WantsFile _ = inl refl
refusal_fits WantsPair NoMemory = inr (λ e. absurd cc)
refusal_fits WantsPair _ = inl refl
refusal_fits WantsDone NoMemory = inr (λ e. absurd cc)
refusal_fits WantsDone _ = inl refl
refusal_fits WantsBytes NoMemory = inr (λ e. absurd cc)
refusal_fits WantsBytes _ = inl refl
refusal_fits WantsChild NoMemory = inr (λ e. absurd cc)
refusal_fits WantsChild _ = inl refl
refusal_fits WantsEnding NoMemory = inr (λ e. absurd cc)
refusal_fits WantsEnding _ = inl refl
refusal_fits WantsNames NoMemory = inr (λ e. absurd cc)
refusal_fits WantsNames _ = inl refl
refusal_fits WantsKind NoMemory = inr (λ e. absurd cc)
refusal_fits WantsKind _ = inl refl

reading_fits : (b : List _) (short : Bool) → nat_le (length b) 4096 ≡ short → (taken_as WantsBytes (bytes b) ≡ bytes b) ⊎ (taken_as WantsBytes (bytes b) ≡ bytes b → ⊥)
reading_fits b true e = inl (at_true (nat_le (length b) 4096) (bytes b) (refused Other) e)
reading_fits b false e = inr (λ h. let k : refused Other ≡ bytes b = sym (at_false (nat_le (length b) 4096) (bytes b) (refused Other) e) ∙ h in absurd cc)

fits : (w : Want) (x : Answer) → (taken_as w x ≡ x) ⊎ (taken_as w x ≡ x → ⊥)
fits w (refused f) = refusal_fits w f
fits WantsFile (file h) = inl refl
fits WantsPair (pair r v) = inl refl
fits WantsDone done = inl refl
fits WantsBytes (bytes b) = reading_fits b (nat_le (length b) 4096) refl
fits WantsChild (child n) = inl refl
fits WantsEnding (ended e) = inl refl
fits WantsNames (names ns) = inl refl
fits WantsKind (found k) = inl refl
fits WantsFile _ = inr (λ e. absurd cc)
fits WantsPair _ = inr (λ e. absurd cc)
fits WantsDone _ = inr (λ e. absurd cc)
fits WantsBytes _ = inr (λ e. absurd cc)
fits WantsChild _ = inr (λ e. absurd cc)
fits WantsEnding _ = inr (λ e. absurd cc)
fits WantsNames _ = inr (λ e. absurd cc)
fits WantsKind _ = inr (λ e. absurd cc)

pub answers_or_not : (c : Call) (x : Answer) → IsAnswered c x ⊎ (IsAnswered c x → ⊥)
answers_or_not c x = by_halt (is_halt x) refl
  where
    by_fit : is_halt x ≡ false → (fitting c x ≡ x) ⊎ (fitting c x ≡ x → ⊥) → IsAnswered c x ⊎ (IsAnswered c x → ⊥)
    by_fit n (inl f) = inl (record { came = n; fits = f })
    by_fit n (inr f) = inr (λ a. f a.fits)

    by_halt : (b : Bool) → is_halt x ≡ b → IsAnswered c x ⊎ (IsAnswered c x → ⊥)
    by_halt true n = inr (λ a. let t : true ≡ false = sym n ∙ a.came in absurd cc)
    by_halt false n = by_fit n (fits (want c) x)
