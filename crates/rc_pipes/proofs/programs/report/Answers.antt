use Rattle.std.proofs.Common.{◌≡◌, [], ◌∷◌, ◌++◌, ◌∙◌}
use Rattle.std.specs.Prelude.{codes}
use Rattle.rc_model.specs.Run.Calls.{write, as_done}
use Rattle.rc_model.specs.Run.Plans.{done_with}
use Rattle.rc_model.specs.Run.Shell.{Next}
use Rattle.rc_world.specs.declared.starts.Stop.TheVariants.{NoMemory}
use Rattle.rc_world.proofs.Joins.{left_asked, left_here, passed_up, ran_answered}
use Rattle.law_plans.proofs.Runs.{ran_none}
use Rattle.rc_pipes.proofs.programs.report.Goals as goal

pub returns-in_err-line : goal.returns-in_err-line
returns-in_err-line g c = λ s. passed_up _ _ _ _ c.from_residual.result NoMemory c.from_residual.ensures.1 (left_here _ _ _ _ (ran_none _ _))

pub returns-in_err-write : goal.returns-in_err-write
returns-in_err-write g c = λ s.
    let line : c.as_bytes.result.now ≡ codes "rc: " ++ c.args.text.now ++ 10 ∷ [] = c.as_bytes.ensures.value ∙ c.in_ok-line.ensures in
    passed_up _ _ _ _ c.from_residual-in_err-write.result c.in_err-write.field-0.0 c.from_residual-in_err-write.ensures.1
    (left_asked _ _ _ (write c.args.slots.errors (codes "rc: " ++ c.args.text.now ++ 10 ∷ [])) as_done (λ d. done_with (Next tt (s)))
    (rw line at c.in_err-write.ensures))

pub returns : goal.returns
returns g c = λ s.
    let line : c.as_bytes.result.now ≡ codes "rc: " ++ c.args.text.now ++ 10 ∷ [] = c.as_bytes.ensures.value ∙ c.in_ok-line.ensures in
    ran_answered _ _ _ (write c.args.slots.errors (codes "rc: " ++ c.args.text.now ++ 10 ∷ [])) as_done _ (λ d. done_with (Next tt (s))) _
    (rw line at c.in_ok-write.ensures) (ran_none _ _)
