-- Well formed within a number of levels.
use Rattle.std.specs.Prelude.{ℕ, Bool, ◌&&◌, nat_le}
use Rattle.rc_model.specs.Syntax.Tree.{Sort, Node, Many}
use Rattle.rc_model.specs.Syntax.WellFormed.{depth, depths, is_sound, are_sound}

-- a sound node of at most this many levels
unfoldable pub fits : {s : Sort} → Node s → ℕ → Bool
fits n left = is_sound n && nat_le (depth n) left

-- sound nodes of at most this many levels each
unfoldable pub all_fit : {s : Sort} → Many s → ℕ → Bool
all_fit ns left = are_sound ns && nat_le (depths ns) left
