use Rattle.std.proofs.Common.{refl}
use Rattle.law_examples.specs.Shown.{meant, ran}
use Rattle.law_examples.proofs.echo_hello.Goals as goal

pub returns : goal.returns
unfolding meant ran
returns c = (refl, refl)
