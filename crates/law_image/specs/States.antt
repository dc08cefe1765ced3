-- Proper states, and what changes them.
use Rattle.std.specs.Prelude.{IsTrue, ℕ, List}
use Rattle.rc_model.specs.Syntax.Tree.{Node, cmd}
use Rattle.rc_model.specs.Run.State.{State, new_state, is_name, is_function_name, set_value, push_local, pop_local}
use Rattle.rc_model.specs.Run.State.{define, undefine}
use Rattle.rc_model.specs.Handed.Proper.{IsProper, IsProperTree}

-- setting a variable, or covering it by a local, keeps a state proper if the name is a variable's
abbrev pub VariablesStayProper : Type 0
VariablesStayProper = (s : State) (name : List ℕ) (value : List (List ℕ)) → IsTrue (is_name name) → IsProper s →
    IsProper (set_value s name value) × IsProper (push_local s name value)

-- defining a function keeps a state proper if the name is a function's and the body a proper tree
abbrev pub FunctionsStayProper : Type 0
FunctionsStayProper = (s : State) (name : List ℕ) (body : Node cmd) → IsTrue (is_function_name name) →
    IsProperTree body → IsProper s → IsProper (define s name body)

-- ending a local keeps a state proper, and so does removing functions
abbrev pub EndsStayProper : Type 0
EndsStayProper = (s : State) (names : List (List ℕ)) → IsProper s → IsProper (pop_local s) × IsProper (undefine s names)

-- the empty state is proper
abbrev pub BeginsProper : Type 0
BeginsProper = IsProper new_state
