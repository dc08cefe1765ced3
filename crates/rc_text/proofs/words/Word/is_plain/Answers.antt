use Rattle.std.proofs.Common.{◌≡◌, subst}
use Rattle.rc_model.specs.Syntax.Words.{unmarked}
use Rattle.rc_text.proofs.MarkedRuns.{plain_unmarked}
use Rattle.rc_text.proofs.words.Word.is_plain.Goals as goal

pub returns : goal.returns
returns c e = subst (λ w. unmarked w ≡ w) c.self.view_is (plain_unmarked _ _ (c.is_plain.ensures e))
