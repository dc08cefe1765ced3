use Rattle.std.proofs.Common.{subst}
use Rattle.std.specs.Prelude.{IsTrue}
use Rattle.rc_tree.specs.Fits.{fits}
use Rattle.rc_tree.proofs.Characters.{whole_cmd}
use Rattle.rc_tree.proofs.soundness.well_formed.Goals as goal

pub returns-clause-proper : goal.returns-clause-proper
unfolding fits
returns-clause-proper c = λ is_sound. record {
  sound = subst IsTrue c.fit_cmd.ensures is_sound;
  characters = whole_cmd c.args.cmd.now;
}
