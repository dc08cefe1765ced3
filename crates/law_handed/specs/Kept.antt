-- The trees that code keeps.
use Rattle.std.specs.Prelude.{List, [], ◌∷◌}
use Rattle.rc_model.specs.Syntax.Tree.{Node, cmd}
use Rattle.rc_model.specs.Code.Layout.{Kept, KeptTree, KeptStages, KeptPieces, code}
use Rattle.rc_model.specs.Handed.Proper.{IsProperTree}

-- what code keeps is a proper tree, if it is a tree
abbrev pub IsKeptProper : Kept → Type 0
IsKeptProper (KeptTree c) = IsProperTree c
IsKeptProper (KeptStages stages) = Unit {0}
IsKeptProper (KeptPieces pieces) = Unit {0}

-- each tree that code keeps is proper
abbrev pub AllKeptProper : List Kept → Type 0
AllKeptProper [] = Unit {0}
AllKeptProper (k ∷ ks) = IsKeptProper k × AllKeptProper ks

-- the code of a proper tree keeps only proper trees
abbrev pub CodeKeepsProper : Type 0
CodeKeepsProper = (c : Node cmd) → IsProperTree c → AllKeptProper (code c).kept
