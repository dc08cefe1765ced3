-- Whether a node has at most a number of levels.
use Rattle.std.specs.Prelude.{ℕ, Bool, nat_le}
use Rattle.rc_model.specs.Syntax.Tree.{Sort, Node, Many}
use Rattle.rc_model.specs.Syntax.WellFormed.{depth, depths}

-- a node of at most a given number of levels
unfoldable pub within : {s : Sort} → Node s → ℕ → Bool
within n left = nat_le (depth n) left

-- nodes of at most a given number of levels each
unfoldable pub within_all : {s : Sort} → Many s → ℕ → Bool
within_all ns left = nat_le (depths ns) left
