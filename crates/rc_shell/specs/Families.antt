-- The family that values represent, and its invariant.
use Rattle.std.specs.Prelude.{ℕ, List, [], ◌∷◌, map}
use Rattle.rc_model.specs.Run.State as model
use Rattle.rc_model.specs.Run.State.{new_state}
use Rattle.rc_model.specs.Syntax.Tree.{Node, cmd, Empty}
use Rattle.rc_model.specs.Family.Family.{read_launch}
use Rattle.rc_model.specs.Family.Steps.{IsMadeBy}
use Rattle.rc_scope.specs.States.{state_of}
use Rattle.rc_tree.specs.View.{cmd_tree}
use Rattle.rc_shell.specs.Held.{Held}
use Rattle.rc_shell.specs.Made.{Made, processes}
use Rattle.rc_shell.specs.Standings.{step_of, Stand}
use Rattle.rc_shell.specs.declared.family.process_steps.Process.{Process}
use Rattle.rc_shell.specs.declared.family.process_steps.FamilyStep.{FamilyStep}

-- the tree that the first process was handed
abbrev pub first_tree : List Process → Node cmd
first_tree [] = Empty
first_tree (p ∷ ps) = cmd_tree p.cmd

-- the state that the first process was handed
abbrev pub first_state : List Process → model.State
first_state [] = new_state
first_state (p ∷ ps) = state_of p.state

-- the values of a family
abbrev pub held : ℕ → List Process → List FamilyStep → Held
held limit ps es = record { limit = limit; processes = ps; steps = es }

-- the family that values represent
abbrev pub made_of : Held → Made
made_of f = record {
  limit = f.limit;
  tree = first_tree f.processes;
  state = first_state f.processes;
  steps = map step_of f.steps;
}

-- its steps were made, and its values represent the processes after them
pub record Holds (f : Held) : Type 0 where
  pub made : IsMadeBy read_launch f.limit (made_of f).tree (made_of f).state (made_of f).steps
  pub stand : Stand f.limit f.processes (processes (made_of f))
