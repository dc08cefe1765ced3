use Rattle.std.proofs.Common.{rules, ◌≡◌, true, false}
use Rattle.rc_model.specs.Handed.Image.{is_fit}
use Rattle.rc_world.specs.Views.{launch_of}
use Rattle.rc_pipes.proofs.Fits.{not_fit, fit, begun_by, no_child}
use Rattle.rc_world.proofs.Joins.{comes_as, passed_up, ran_as}
use Rattle.law_plans.proofs.Runs.{ran_none}
use Rattle.rc_pipes.proofs.programs.start_child.Goals as goal

pub returns-then-not-is_fit : goal.returns-then-not-is_fit
returns-then-not-is_fit g c =
    let l = launch_of c.args.launch.now in
    let large : is_fit l ≡ false = search rules in
    λ s. ran_as _ _ _ _ _ (not_fit l s large) (ran_none _ _)

pub returns-in_err-child : goal.returns-in_err-child
returns-in_err-child g c =
    let l = launch_of c.args.launch.now in
    let fits : is_fit l ≡ true = search rules in
    λ s. comes_as _ _ _ _ _ _ (fit l s fits) (passed_up _ _ _ _ c.from_residual.result c.in_err-child.field-0.0 c.from_residual.ensures.1 (no_child _ _ _ l s c.in_err-child.ensures))

pub returns-in-Some : goal.returns-in-Some
returns-in-Some g c =
    let l = launch_of c.args.launch.now in
    let fits : is_fit l ≡ true = search rules in
    λ s. ran_as _ _ _ _ _ (fit l s fits) (begun_by _ _ l s _ (rw c.in-Some.is at c.in_ok-child.ensures))

pub returns-in-None : goal.returns-in-None
returns-in-None g c =
    let l = launch_of c.args.launch.now in
    let fits : is_fit l ≡ true = search rules in
    λ s. ran_as _ _ _ _ _ (fit l s fits) (begun_by _ _ l s _ (rw c.in-None.is at c.in_ok-child.ensures))
