-- A proof that code keeps only trees that a shell holds is unique.
use Rattle.std.specs.Prelude.{List, [], ◌∷◌}
use Rattle.std.specs.Coded.{×_prop, Unit-prop}
use mathlib.Core.Bool.{Bool-set}
use Rattle.rc_model.specs.Syntax.Tree.{Node, cmd}
use Rattle.rc_model.specs.Code.Layout.{Kept, KeptTree, KeptStages, KeptPieces}
use Rattle.rc_model.specs.Handed.Proper.{IsProperTree}
use Rattle.law_handed.specs.Kept.{IsKeptProper, AllKeptProper}

pub tree_prop : (c : Node cmd) → IsProp (IsProperTree c)
tree_prop c = hlevel Bool-set

one_prop : (k : Kept) → IsProp (IsKeptProper k)
one_prop (KeptTree c) = tree_prop c
one_prop (KeptStages stages) = Unit-prop
one_prop (KeptPieces pieces) = Unit-prop

pub kept_prop : (ks : List Kept) → IsProp (AllKeptProper ks)
kept_prop [] = Unit-prop
kept_prop (k ∷ ks) = ×_prop (one_prop k) (kept_prop ks)
