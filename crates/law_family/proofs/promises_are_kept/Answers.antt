use Rattle.law_family.proofs.Promised.{promised}
use Rattle.law_family.proofs.promises_are_kept.Goals as goal

pub returns : goal.returns
returns c = promised
