-- The size of what stands under assignments.
use Rattle.std.proofs.Common.{ℕ}
use Rattle.std.specs.declared.alloc.Global.{Global}
use Rattle.std.specs.declared.boxed.Box.{Box}
use Rattle.std.specs.declared.option.Option.{Option}
use Rattle.std.specs.declared.option.Option.TheVariants.{None, Some}
use Rattle.rc_tree.specs.declared.types.Cmd.{Cmd}
use Rattle.rc_tree.proofs.types.Cmd.TheLaws as command

-- no command has no size
abbrev pub body_size : Option (Box Cmd Global) → ℕ
body_size None = 0
body_size (Some x) = command.the_size x.value
