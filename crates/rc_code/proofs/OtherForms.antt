-- Commands that are none of some forms.
use Rattle.std.specs.declared.alloc.Global.{Global}
use Rattle.std.specs.declared.vec.Vec.{Vec}
use Rattle.std.proofs.Common.{◌≡◌, ◌==◌, refl, sym, ◌∙◌, true, false, not, List, [], ◌∷◌, length, arith}
use Rattle.rc_model.specs.Syntax.Tree.{Node, item, link, nodes, has_no_items, guards}
use Rattle.rc_model.specs.Syntax.Tree as tree
use Rattle.std.proofs.lemmas.Grind.{common_steps}
use Rattle.std.proofs.lemmas.Bool.Decides.{nat_tests}
use Rattle.rc_tree.specs.declared.types.Cmd.{Cmd}
use Rattle.rc_tree.specs.declared.types.Cmd.TheVariants as c
use Rattle.rc_tree.specs.declared.types.Item.{Item}
use Rattle.rc_tree.specs.View.{cmd_tree}
use Rattle.rc_tree.specs.declared.types.Arg.TheBlock as rows
use Rattle.rc_tree.specs.declared.types.Arg.TheViews as views

pub not_listed : (x : Cmd) → ((v : Vec Item Global) → x ≡ c.Seq v → ⊥) → has_no_items (cmd_tree x) ≡ false
unfolding cmd_tree views.out-Cmd views.roll-Cmd denote.Hole.Carrier.out
not_listed (c.Seq' s k) h = absurd (h (rows.shown-the_row-Item-1 s k) (sym (views.roll-out-Cmd (c.Seq' s k)) ∙ views.rolls-Seq (rows.shown-the_row-Item-1 s k)))
not_listed _ h = refl

pub listed : {X : Type 0} (f : X → Node item) (xs : List X) → has_no_items (tree.Seq (nodes f xs)) ≡ (length xs == 0)
listed f [] = refl
listed f (x ∷ xs) = grind (arith, nat_tests)

pub guards_true : {X : Type 0} (f : X → Node link) (xs : List X) → guards (nodes f xs) true ≡ true
guards_true f [] = refl
guards_true f (x ∷ xs) = refl

pub guards_false : {X : Type 0} (f : X → Node link) (xs : List X) → guards (nodes f xs) false ≡ not (length xs == 0)
guards_false f [] = refl
guards_false f (x ∷ xs) = grind (arith, nat_tests)

pub ruleset guarding = (guards_true, guards_false, common_steps)
