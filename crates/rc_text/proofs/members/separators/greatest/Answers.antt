use Rattle.std.proofs.Common.{◌≤◌, arith, subst}
use Rattle.std.proofs.lemmas.List.{take_all}
use Rattle.std.specs.List.{All}
use Rattle.rc_text.proofs.Cuts.{All-one_more}
use Rattle.rc_text.proofs.members.separators.greatest.Goals.{then-greatest-c, else-greatest-c}
use Rattle.rc_text.proofs.members.separators.greatest.Goals as goal

pub loop-c-preserved : goal.loop-c-preserved
loop-c-preserved c =
    let both : (c.loop-c.greatest ≤ c.if-greatest-c.greatest) × (c.c-item.result ≤ c.if-greatest-c.greatest) = elim c.if-greatest-c.branch [
      | then-greatest-c w ↦ (omega (arith, w.if-greatest-c.true, w.greatest-is), omega (arith, w.greatest-is))
      | else-greatest-c w ↦ (omega (arith, w.greatest-is), omega (arith, w.if-greatest-c.false, w.greatest-is))
    ] in
    All-one_more _ _ _ _ _ c.loop-c-test.true c.c-item.is c.loop-c.invariant both.0 both.1

pub returns : goal.returns
returns c = subst (All (λ d. d ≤ c.loop-c.greatest)) (take_all _ _ c.loop-c-test.false) c.loop-c.invariant
