-- The lines of `whatis` as they go out.
use Rattle.std.proofs.Common.{◌≡◌, ℕ, Bool, cond, List, [], ◌∷◌, length, Option, refl, arith}
use Rattle.std.specs.Prelude.{codes}
use Rattle.rc_model.specs.declared.call.Slots.{Slots}
use Rattle.rc_model.specs.Run.Builtins.{met, write_lines}
use Rattle.rc_model.specs.Run.Calls.{Event, write, as_done}
use Rattle.rc_model.specs.Run.Plans.{done_with, asks, RanBetween}
use Rattle.rc_model.specs.Run.Shell.{Next}
use Rattle.rc_model.specs.Run.State.{State, with_status}
use Rattle.rc_world.specs.Comes.{Left}
use Rattle.rc_world.specs.declared.starts.Stop.{Stop}
use Rattle.rc_world.proofs.Joins.{left_asked, ran_answered}
use Rattle.law_plans.proofs.Runs.{ran_none}

-- the status after the lines went out, or did not
abbrev pub after_writing : Option (List ℕ) → Bool → List ℕ
after_writing status done = cond done (met status) (codes "cannot write")

pub ran_no_lines : (slots : Slots) (lines : List ℕ) (status : Option (List ℕ)) (s : State) (a : Option (List Event)) → length lines ≡ 0 →
    RanBetween a a (write_lines slots lines status s) (done_with (Next tt (with_status s (met status))))
ran_no_lines slots [] status s a h = ran_none a _
ran_no_lines slots (b ∷ bs) status s a h = absurd (omega (arith, h))

pub ran_lines : (slots : Slots) (lines : List ℕ) (status : Option (List ℕ)) (s : State) (a b : Option (List Event)) (d : Bool) → (length lines ≡ 0 → ⊥) →
    RanBetween a b (asks (write slots.output lines) as_done) (done_with d) → RanBetween a b (write_lines slots lines status s) (done_with (Next tt (with_status s (after_writing status d))))
ran_lines slots [] status s a b d h f = absurd (h refl)
ran_lines slots (c ∷ cs) status s a b d h f =
    ran_answered a b b (write slots.output (c ∷ cs)) as_done d (λ x. done_with (Next tt (with_status s (after_writing status x)))) _ f (ran_none b _)

pub left_lines : (slots : Slots) (lines : List ℕ) (status : Option (List ℕ)) (s : State) (a b : Option (List Event)) (stop : Stop) → (length lines ≡ 0 → ⊥) →
    Left a b (asks (write slots.output lines) as_done) stop → Left a b (write_lines slots lines status s) stop
left_lines slots [] status s a b stop h f = absurd (h refl)
left_lines slots (c ∷ cs) status s a b stop h f =
    left_asked a b stop (write slots.output (c ∷ cs)) as_done (λ x. done_with (Next tt (with_status s (after_writing status x)))) f
