-- Each tree that code keeps is one that a shell holds.
use Rattle.std.proofs.Common.{◌≡◌, ℕ, zero, suc, List, [], ◌∷◌, Option, Some, None, option_map, sym, subst}
use Rattle.std.specs.Prelude.{slice_get, IfSome}
use Rattle.rc_model.specs.Syntax.Tree.{Node, cmd}
use Rattle.rc_model.specs.Code.Layout.{Kept, KeptTree, KeptStages, KeptPieces}
use Rattle.rc_model.specs.Handed.Proper.{IsProperTree}
use Rattle.law_handed.specs.Kept.{IsKeptProper, AllKeptProper}
use Rattle.rc_code.specs.Views.{tree_in}

proper_at : (ks : List Kept) (k : ℕ) → AllKeptProper ks → IfSome (slice_get ks k) IsKeptProper
proper_at [] k p = tt
proper_at (x ∷ ks) zero p = p.0
proper_at (x ∷ ks) (suc k) p = proper_at ks k p.1

proper_in : (o : Option Kept) (c : Node cmd) → IfSome o IsKeptProper → tree_in o ≡ Some c → IsProperTree c
proper_in None c p h = absurd (cc)
proper_in (Some (KeptTree d)) c p h = let same : d ≡ c = cc in subst IsProperTree same p
proper_in (Some (KeptStages stages)) c p h = absurd (cc)
proper_in (Some (KeptPieces pieces)) c p h = absurd (cc)

-- the tree of a number, where it is one
pub proper_tree : {X : Type 0} (tree : X → Node cmd) (ks : List Kept) (k : ℕ) (found : Option X) → AllKeptProper ks → option_map tree found ≡ tree_in (slice_get ks k)
    → IfSome found (λ x. IsProperTree (tree x))
proper_tree tree ks k None p h = tt
proper_tree tree ks k (Some x) p h = proper_in (slice_get ks k) (tree x) (proper_at ks k p) (sym h)
