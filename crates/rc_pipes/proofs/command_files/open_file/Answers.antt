use Rattle.std.proofs.Common.{◌≡◌, ap, ◌∙◌, map, string_bytes}
use Rattle.std.specs.Prelude.{option_map}
use Rattle.rc_model.specs.Run.Acts.{candidates}
use Rattle.rc_model.specs.Run.Builtins.{open_first, run_file}
use Rattle.rc_scope.specs.States.{state_of}
use Rattle.rc_world.specs.declared.starts.Stop.TheVariants.{NoMemory}
use Rattle.rc_world.proofs.Joins.{given_up, left_here}
use Rattle.law_plans.proofs.Runs.{ran_none}
use Rattle.rc_pipes.proofs.Opening.{goes_on}
use Rattle.rc_pipes.proofs.command_files.open_file.Goals as goal

pub returns-in_err-paths : goal.returns-in_err-paths
returns-in_err-paths g c = λ args.
    given_up _ _ _ _ c.from_residual.result NoMemory c.from_residual.ensures.1 (left_here _ _ _ _ (ran_none _ _))

pub returns : goal.returns
returns g c = λ args.
    let s = state_of c.args.state.now in
    let paths : map string_bytes c.deref.result.now ≡ candidates s c.args.name.now = ap (map string_bytes) c.deref.ensures.value ∙ c.in_ok-paths.ensures in
    goes_on _ _ s (open_first (candidates s c.args.name.now)) (λ file. run_file args file) (λ file. option_map (λ f. f.0) file) c.open_first.result
    (rw paths at (c.open_first.ensures s))
