-- Properties of every tree and every state of a shell.
use Rattle.std.specs.Prelude.{◌≡◌, ℕ, List, [], ◌∷◌, Bool, not, ◌&&◌, IsTrue}
use Rattle.std.specs.List.{list_all}
use Rattle.std.specs.Str.{bytes_eq}
use Rattle.std.specs.declared.cmp.Ordering.TheVariants.{Less}
use Rattle.rc_model.specs.Syntax.Text.{text_cmp}
use Rattle.rc_model.specs.Syntax.Tree.{Node, cmd}
use Rattle.rc_model.specs.Syntax.WellFormed.{well_formed}
use Rattle.rc_model.specs.Run.State.{State, status_name, is_name, is_function_name}
use Rattle.rc_model.specs.Handed.TreeSpelling.{has_characters}

-- a name precedes all these names in byte order
abbrev pub Above : {X : Type 0} → List ℕ → List (List ℕ × X) → Type 0
Above k [] = Unit {0}
Above k (e ∷ es) = (text_cmp k e.0 ≡ Less) × Above k es

-- the names of a map are distinct and in byte order
abbrev pub Ordered : {X : Type 0} → List (List ℕ × X) → Type 0
Ordered [] = Unit {0}
Ordered (e ∷ es) = Above e.0 es × Ordered es

-- a tree that a shell holds
pub record IsProperTree (c : Node cmd) : Type 0 where
  pub sound : IsTrue (well_formed c)
  pub characters : IsTrue (has_characters c)

-- the bodies of all functions are such trees
abbrev pub AllProperTrees : List (List ℕ × Node cmd) → Type 0
AllProperTrees [] = Unit {0}
AllProperTrees (f ∷ fs) = IsProperTree f.1 × AllProperTrees fs

-- the name of a variable that has a value of its own
abbrev pub is_own_name : List ℕ → Bool
is_own_name name = is_name name && not (bytes_eq name status_name)

-- the properties of every state of a shell
pub record IsProper (s : State) : Type 0 where
  pub names : IsTrue (list_all (λ b. is_own_name b.0) s.variables)
  pub ordered : Ordered s.variables
  pub function_names : IsTrue (list_all (λ f. is_function_name f.0) s.functions)
  pub functions_ordered : Ordered s.functions
  pub bodies : AllProperTrees s.functions
