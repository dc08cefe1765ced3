use Rattle.rc_glob.proofs.Texts.{pushed_step}
use Rattle.rc_glob.proofs.components.push_text.Goals as goal

pub loop-ch-preserved : goal.loop-ch-preserved
loop-ch-preserved c = pushed_step _ _ _ c.loop-ch-test.true _ _ _ c.in_ok-push.ensures.bytes c.loop-ch.invariant
