use Rattle.rc_shown.proofs.Shown.{makes_calls, shows_calls}
use Rattle.rc_shown.proofs.run_shown.Goals as goal

pub returns-clause-shown : goal.returns-clause-shown
returns-clause-shown g c calls e = record {
  shown = shows_calls _ _ _ _ _ _ _ _ _ _ calls e _ _ c.run_rc.new.world.lines.shown;
  made = makes_calls _ _ _ _ _ _ _ _ _ _ calls e _ _ c.args.world.now.made c.run_rc.new.world.made;
}
