use Rattle.std.proofs.Common.{◌≡◌, ◌+◌, ◌*◌, take}
use Rattle.rc_tree.specs.View.{args_tree}
use Rattle.rc_tree.proofs.clone.+arguments.Given as goal

abbrev pub invariant-clone_args-loop-arg : goal.invariant-clone_args-loop-arg
invariant-clone_args-loop-arg l = args_tree l.copies.items ≡ args_tree (take l.arg-index l.args)

abbrev pub decreases-clone_arg : goal.decreases-clone_arg
decreases-clone_arg l = 2 * goal.size-clone_arg l

abbrev pub decreases-clone_boxed_arg : goal.decreases-clone_boxed_arg
decreases-clone_boxed_arg l = 2 * goal.size-clone_boxed_arg l + 1

abbrev pub decreases-clone_args : goal.decreases-clone_args
decreases-clone_args l = 2 * goal.size-clone_args l + 1
