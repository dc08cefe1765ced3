-- The answers of the steps of a process, by a loop over the steps.
use Rattle.std.proofs.Common.{◌≡◌, ℕ, ◌+◌, ◌<◌, List, [], ◌∷◌, ◌++◌, map, length, get_or, take, Bool, true, false, sym, ap, ◌∙◌}
use Rattle.std.specs.Prelude.{if◌then◌else◌, nat_eq}
use Rattle.std.proofs.lemmas.Bool.{eq-eqb, ne_eqb}
use Rattle.std.proofs.lemmas.List.{append-nil, map-append, take_more}
use Rattle.rc_model.specs.Run.Calls.{Answer}
use Rattle.rc_model.specs.Family.Family as family
use Rattle.rc_model.specs.Family.Steps.{answers_at}
use Rattle.law_family.proofs.Grow.{answers_at_more}
use Rattle.rc_world.specs.Views.{answer_of}
use Rattle.rc_world.specs.declared.event.Answer.{Answer as WorldAnswer}
use Rattle.rc_shell.specs.Standings.{step_of}
use Rattle.rc_shell.specs.declared.family.process_steps.FamilyStep.{FamilyStep}

at_false : {X : Type 0} (b : Bool) (x y : X) → b ≡ false → (if b then x else y) ≡ y
at_false b x y e = ap (λ t. if t then x else y) e

at_true : {X : Type 0} (b : Bool) (x y : X) → b ≡ true → (if b then x else y) ≡ x
at_true b x y e = ap (λ t. if t then x else y) e

-- a step of this process, and of another
pub given_here : (k : ℕ) (e : family.FamilyEvent) → e.at ≡ k → answers_at k (e ∷ []) ≡ e.answer ∷ []
given_here k e h = at_true (nat_eq e.at k) (e.answer ∷ []) [] (eq-eqb e.at k h)

pub given_elsewhere : (k : ℕ) (e : family.FamilyEvent) → (e.at ≡ k → ⊥) → answers_at k (e ∷ []) ≡ []
given_elsewhere k e h = at_false (nat_eq e.at k) (e.answer ∷ []) [] (ne_eqb e.at k h)

-- the answer of a step of this process was added
pub pushed_here : (k : ℕ) (step : FamilyStep) (old new : List WorldAnswer) (copy : WorldAnswer) → step.process ≡ k → new ≡ old ++ copy ∷ [] → answer_of copy ≡ answer_of step.answer
    → map answer_of new ≡ map answer_of old ++ answers_at k (step_of step ∷ [])
pushed_here k step old new copy h n c =
    ap (map answer_of) n ∙ (map-append answer_of old (copy ∷ []) ∙ ap (λ l. map answer_of old ++ l) (ap (λ x. x ∷ []) c ∙ sym (given_here k (step_of step) h)))

-- nothing was added for a step of another
pub pushed_elsewhere : (k : ℕ) (step : FamilyStep) (old new : List WorldAnswer) → (step.process ≡ k → ⊥) → new ≡ old
    → map answer_of new ≡ map answer_of old ++ answers_at k (step_of step ∷ [])
pushed_elsewhere k step old new h n =
    ap (map answer_of) n ∙ (sym (append-nil (map answer_of old)) ∙ ap (λ l. map answer_of old ++ l) (sym (given_elsewhere k (step_of step) h)))

-- one turn of the loop
pub given_more : (k i : ℕ) (steps : List FamilyStep) (step : FamilyStep) (old new : List WorldAnswer) → i < length steps → step ≡ get_or steps i step
    → map answer_of old ≡ answers_at k (map step_of (take i steps)) → map answer_of new ≡ map answer_of old ++ answers_at k (step_of step ∷ [])
    → map answer_of new ≡ answers_at k (map step_of (take (i + 1) steps))
given_more k i steps step old new l s h n =
    let e : take (i + 1) steps ≡ take i steps ++ step ∷ [] = take_more steps i step l ∙ ap (λ z. take i steps ++ z ∷ []) (sym s) in
    n ∙ (ap (λ a. a ++ answers_at k (step_of step ∷ [])) h
    ∙ (sym (answers_at_more k (map step_of (take i steps)) (step_of step))
    ∙ ap (answers_at k) (sym (ap (map step_of) e ∙ map-append step_of (take i steps) (step ∷ [])))))

-- and one answer more
pub given_and_one : (given : List Answer) (old new : List WorldAnswer) (copy more : WorldAnswer) → map answer_of old ≡ given → new ≡ old ++ copy ∷ [] → answer_of copy ≡ answer_of more
    → map answer_of new ≡ given ++ answer_of more ∷ []
given_and_one given old new copy more h n c =
    ap (map answer_of) n ∙ (map-append answer_of old (copy ∷ []) ∙ (ap (λ l. l ++ answer_of copy ∷ []) h ∙ ap (λ x. given ++ x ∷ []) c))
