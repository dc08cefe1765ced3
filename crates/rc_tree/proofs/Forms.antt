-- Commands that are not the empty one.
use Rattle.std.proofs.Common.{◌≡◌, refl, false}
use Rattle.rc_model.specs.Syntax.Tree.{is_empty}
use Rattle.rc_tree.specs.declared.types.Cmd.{Cmd}
use Rattle.rc_tree.specs.declared.types.Cmd.TheVariants as c
use Rattle.rc_tree.specs.View.{cmd_tree}

pub not_empty : (x : Cmd) → (x ≡ c.Empty → ⊥) → is_empty (cmd_tree x) ≡ false
unfolding cmd_tree
not_empty c.Empty h = absurd (h refl)
not_empty _ h = refl
