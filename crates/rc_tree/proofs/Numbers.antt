-- How many nodes there are, and how many levels, as a walk along a tree counts them.
use Rattle.std.proofs.Common.{◌≡◌, refl, ap, ℕ, suc, ◌-◌, max, ◌&&◌, nat_lt, nat_le, List, [], ◌∷◌, length, arith}
use Rattle.std.proofs.lemmas.Bool.Decides.{nat_tests}
use Rattle.rc_model.specs.Syntax.Tree.{Sort, Node, count, nodes}

-- as many nodes as there are elements
pub count_nodes : {X : Type 0} {s : Sort} (f : X → Node s) (xs : List X) → count (nodes f xs) ≡ length xs
count_nodes f [] = refl
count_nodes f (x ∷ xs) = ap suc (count_nodes f xs)

-- one level is taken, and what is left is for the parts
pub le_suc : (a d : ℕ) → nat_le (suc a) d ≡ (nat_lt 0 d && nat_le a (d - 1))
le_suc a d = grind (arith, nat_tests)

-- parts that stand side by side have the same levels left
pub le_max : (a b d : ℕ) → nat_le (max a b) d ≡ (nat_le a d && nat_le b d)
le_max a b d = grind (arith, nat_tests)
