use Rattle.std.proofs.Common.{ℕ, ◌<◌, ◌≤◌}
use Rattle.std.specs.Prelude.{IsSome}
use Rattle.rc_host.specs.Table.{held_at}
use Rattle.rc_host.proofs.table.Table.free_from.Given as goal

abbrev pub invariant-loop-number : goal.invariant-loop-number
invariant-loop-number g l = (k : ℕ) → l.start ≤ k → k < l.number → IsSome (held_at l.self k)
