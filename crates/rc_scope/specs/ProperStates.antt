-- The variables and functions of every state are those of a proper one, and a proof of that is unique.
use Rattle.std.specs.Prelude.{List, [], ◌∷◌, ℕ}
use Rattle.std.specs.Coded.{×_prop, Unit-prop}
use mathlib.Core.Bool.{Bool-set}
use Rattle.std.specs.Ordering.{Ordering-set}
use Rattle.std.specs.declared.alloc.Global.{Global}
use Rattle.std.specs.declared.string.String.{String}
use Rattle.rc_model.specs.Run.State.{State, new_state}
use Rattle.rc_model.specs.Syntax.Tree.{Node, cmd}
use Rattle.rc_model.specs.Handed.Proper.{Above, Ordered, AllProperTrees, IsProper}
use Rattle.rc_code.specs.ProperCode.{tree_prop}
use Rattle.rc_scope.specs.Bodies.{functions_of}
use Rattle.rc_scope.specs.Stacks.{stacks_of}
use Rattle.rc_scope.specs.declared.variables.Variables.{Variables}
use Rattle.rc_scope.specs.declared.functions.Function.{Function}

-- the state of these variables and functions, which has nothing else
abbrev pub state_with : Variables → List (String Global × Function) → State
state_with variables functions =
    record new_state { variables = stacks_of variables; functions = functions_of functions }

-- that state is proper
abbrev pub AreProper : Variables → List (String Global × Function) → Type 0
AreProper variables functions = IsProper (state_with variables functions)

above_prop : {X : Type 0} (k : List ℕ) (es : List (List ℕ × X)) → IsProp (Above k es)
above_prop k [] = Unit-prop
above_prop k (e ∷ es) = ×_prop (Ordering-set _ _) (above_prop k es)

ordered_prop : {X : Type 0} (es : List (List ℕ × X)) → IsProp (Ordered es)
ordered_prop [] = Unit-prop
ordered_prop (e ∷ es) = ×_prop (above_prop e.0 es) (ordered_prop es)

trees_prop : (fs : List (List ℕ × Node cmd)) → IsProp (AllProperTrees fs)
trees_prop [] = Unit-prop
trees_prop (f ∷ fs) = ×_prop (tree_prop f.1) (trees_prop fs)

pub proper_prop : (s : State) → IsProp (IsProper s)
proper_prop s = hlevel (ordered_prop, trees_prop, Bool-set)
