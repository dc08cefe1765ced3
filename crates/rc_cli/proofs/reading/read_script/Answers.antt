use Rattle.std.proofs.Common.{◌≡◌, ℕ, suc, List, take, Option, Some, None, option_map, IfSome}
use Rattle.rc_model.specs.Syntax.Accepted.{longest_script}
use Rattle.rc_cli.proofs.reading.read_script.Goals as goal

-- what was read of a reader with a limit, by what the reader had left
read_of_left : (left : Option (List ℕ)) (limit most : ℕ) (read : List ℕ)
    → limit ≡ most → IfSome (option_map (take limit) left) (λ bytes. read ≡ bytes)
    → IfSome left (λ bytes. read ≡ take most bytes)
read_of_left None limit most read e h = h
read_of_left (Some bytes) limit most read e h = cc

pub returns-in-Ok-clause-script : goal.returns-in-Ok-clause-script
returns-in-Ok-clause-script g c =
    let h = rw c.take.ensures.inner at c.in-Ok.ensures in
    rw c.in-Some.is (read_of_left (g.R.Read.remaining c.in-Some.input) c.take.result.limit (suc longest_script) _ c.take.ensures.limit h)
