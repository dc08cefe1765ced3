use Rattle.rc_model.specs.Code.Machine.{goes, next}
use Rattle.rc_machine.specs.Configurations.{config_of}
use Rattle.rc_machine.proofs.Left.{step_left}
use Rattle.rc_machine.proofs.Opened.{ended_redirections}
use Rattle.rc_machine.proofs.descriptors.open_redirections.unredir.Goals as goal

pub returns-in_err-end_redirections : goal.returns-in_err-end_redirections
returns-in_err-end_redirections g c place counted =
    let start = record (config_of c.args.machine.now) { counter = place } in
    step_left _ _ _ (config_of c.end_redirections.new.machine) c.from_residual.result c.in_err-end_redirections.field-0.0 c.from_residual.ensures.1
    (c.in_err-end_redirections.ensures (λ scopes slots. goes (record (next start start.words start.state) { scopes = scopes; slots = slots })))

pub returns : goal.returns
returns g c place counted =
    ended_redirections _ _ c.args.count (config_of c.args.machine.now) (config_of c.end_redirections.new.machine) place counted c.in_ok-end_redirections.ensures
