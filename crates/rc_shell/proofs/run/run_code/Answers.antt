use Rattle.std.proofs.Common.{◌≡◌}
use Rattle.rc_code.specs.Views.{code_of}
use Rattle.rc_machine.specs.Machines.{config_of}
use Rattle.rc_model.specs.Code.Machine.{begin}
use Rattle.rc_scope.specs.States.{state_of}
use Rattle.rc_shell.proofs.Runs.{begins, recorded_run}
use Rattle.rc_shell.proofs.run.run_code.Goals as goal

pub returns : goal.returns
returns g c = λ t h.
    let s = state_of c.args.state in
    let start : config_of c.new-machine.result ≡ begin t s = begins t s (code_of c.args.code) (config_of c.new-machine.result) c.new-machine.ensures.begins h in
    recorded_run c.args.limit t s _ _ (config_of c.run-progress.new.self) c.run-progress.result c.outcome.result (rw start at (c.run-progress.ensures.runs c.new-machine.ensures.running)) c.outcome.ensures
