-- A family by the values of its processes and steps.
use Rattle.std.specs.Prelude.{ℕ, List}
use Rattle.rc_shell.specs.declared.family.process_steps.Process.{Process}
use Rattle.rc_shell.specs.declared.family.process_steps.FamilyStep.{FamilyStep}

-- the fields of a family
pub record Held : Type 0 where
  pub limit : ℕ
  pub processes : List Process
  pub steps : List FamilyStep
