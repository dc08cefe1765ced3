-- Trees with the same spelling are the same.
use Rattle.std.specs.Prelude.{◌≡◌, ℕ, ◌≤◌, List, ◌++◌, codes, length}
use Rattle.std.proofs.Common.{ap, sym, subst}
use Rattle.rc_model.specs.Handed.Image.{image, node_image}
use Rattle.rc_model.specs.Handed.Proper.{IsProperTree}
use Rattle.rc_model.specs.Handed.TreeSpelling.{SpellsImage}
use Rattle.rc_model.specs.Run.Numbers.{greatest_number}
use Rattle.rc_model.specs.Syntax.Tree.{Node, cmd}
use Rattle.rc_model.specs.Syntax.Accepted.{IsAccepted}
use Rattle.law_handed.proofs.Characters.{accepted_are_scripts}
use Rattle.law_image.proofs.OneTree.{one_tree}
use Rattle.law_image.proofs.Sizes.{within_of}
use Rattle.law_image.proofs.Trees.{has_spelling}

-- a proper tree is spelled by its image, if that is short enough
spelled : (tree : Node cmd) → IsProperTree tree → length (node_image tree) ≤ greatest_number → SpellsImage tree (image tree)
spelled tree proper short = has_spelling tree proper.sound proper.characters (within_of tree greatest_number short)

pub same_trees : (first second : Node cmd) → IsProperTree first → IsProperTree second → length (node_image first) ≤ greatest_number →
    node_image first ≡ node_image second → first ≡ second
same_trees first second p q short e =
    one_tree first second (image first) (spelled first p short)
    (subst (SpellsImage second) (sym (ap (λ z. codes "rc1;" ++ z) e)) (spelled second q (subst (λ z. length z ≤ greatest_number) e short)))

-- the tree of a script is proper
pub proper_tree : (script : List ℕ) (tree : Node cmd) → IsAccepted script tree → IsProperTree tree
proper_tree = accepted_are_scripts

-- a text with the same tree has this one
pub same_accepted : (text : List ℕ) (tree other : Node cmd) → tree ≡ other → IsAccepted text other → IsAccepted text tree
same_accepted text tree other e a = subst (IsAccepted text) (sym e) a
