use Rattle.std.proofs.Common.{subst, sym}
use Rattle.rc_text.specs.Views.{AreMarked}
use Rattle.rc_text.proofs.MarkedRuns.{plain_fits}
use Rattle.rc_text.proofs.words.Word.push_text.Goals as goal

pub push-requires : goal.push-requires
push-requires c = subst (AreMarked c.args.next.now) (sym c.one.ensures) (plain_fits c.args.next.now)
