-- The plan of a launch: which program is started, and what it gets.
use Rattle.std.specs.Prelude.{ℕ, List, unwrap_or}
use Rattle.rc_model.specs.Run.Calls.{Launch}
use Rattle.rc_model.specs.declared.call.Slots.{Slots}

-- a program, its arguments, its environment and its descriptors
pub record Plan : Type 0 where
  pub program : List ℕ
  pub args : List (List ℕ)
  pub env : List (List ℕ)
  pub slots : Slots

-- the plan of a launch, given the path of the shell's own program: the program itself, with what the launch names
abbrev pub plan_of : (shell : List ℕ) → Launch → Plan
plan_of shell launch = record {
  program = unwrap_or launch.program shell;
  args = launch.args;
  env = launch.entries;
  slots = launch.slots;
}
