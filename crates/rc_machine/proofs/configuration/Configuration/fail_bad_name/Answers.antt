use Rattle.std.proofs.Common.{ap, sym}
use Rattle.rc_machine.specs.Configurations.{config_of}
use Rattle.rc_machine.specs.Steps.{failed}
use Rattle.rc_machine.proofs.Left.{steps_as}
use Rattle.rc_machine.proofs.configuration.Configuration.fail_bad_name.Goals as goal

pub returns : goal.returns
returns g c = steps_as _ _ _ _ _ _ (ap (failed (config_of c.args.self.now)) (sym c.words.ensures)) c.fail.ensures
