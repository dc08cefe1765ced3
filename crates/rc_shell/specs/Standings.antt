-- The processes and steps that the values of a family represent.
use Rattle.std.specs.Prelude.{◌≡◌, ℕ, ◌<◌, List, length, map, Bool, Option, Some, None}
use Rattle.std.specs.Prelude.{slice_index_or}
use Rattle.std.specs.Borrow.{Bor}
use Rattle.rc_model.specs.Run.Calls as calls
use Rattle.rc_model.specs.Family.Family as family
use Rattle.rc_model.specs.Handed.Proper.{IsProperTree}
use Rattle.rc_model.specs.Family.Steps.{WaitsInTime, EndsInTime}
use Rattle.rc_scope.specs.States.{state_of}
use Rattle.rc_text.specs.Texts.{text_bytes}
use Rattle.rc_text.specs.declared.texts.Text.{Text}
use Rattle.rc_tree.specs.View.{cmd_tree}
use Rattle.rc_world.specs.Views.{call_of, answer_of}
use Rattle.rc_world.specs.declared.event.Call.{Call}
use Rattle.rc_shell.specs.Made.{BeginsNot, first_process}
use Rattle.rc_shell.specs.declared.family.family_fault.FamilyFault.{FamilyFault}
use Rattle.rc_shell.specs.declared.family.family_fault.FamilyFault.TheVariants as fault
use Rattle.rc_shell.specs.declared.family.process_steps.Process.{Process}
use Rattle.rc_shell.specs.declared.family.process_steps.FamilyStep.{FamilyStep}

-- a step
abbrev pub step_of : FamilyStep → family.FamilyEvent
step_of e = record { at = e.process; call = call_of e.call; answer = answer_of e.answer }

-- the options of a shell by its arguments
abbrev pub words_of : Bool × Bor (List Text) → Bool × List (List ℕ)
words_of o = (o.0, map text_bytes o.1.now)

-- within the limit a process reaches this call, or its end
abbrev pub StandsAt : ℕ → family.Process → Option Call → Type 0
StandsAt limit q (Some c) = WaitsInTime limit q (call_of c)
StandsAt limit q None = EndsInTime limit q

-- a value represents a process
pub record StandsFor (limit : ℕ) (p : Process) (q : family.Process) : Type 0 where
  pub tree : cmd_tree p.cmd ≡ q.tree
  pub state : state_of p.state ≡ q.state
  -- the tree is proper
  pub proper : IsProperTree q.tree
  pub at : StandsAt limit q p.pending

-- values represent the processes of a family
pub record Stand (limit : ℕ) (ps : List Process) (f : family.Family) : Type 0 where
  pub count : length ps ≡ f.count
  pub each : (i : ℕ) (p : Process) → i < length ps → StandsFor limit (slice_index_or ps i p) (f.at i)

-- the shell that was started, if any, before any answer
abbrev pub StartsAs : ℕ → Option (calls.Launch × ℕ) → Option Process → Type 0
StartsAs limit None p = p ≡ None
StartsAs limit (Some (l, n)) None = ⊥
StartsAs limit (Some (l, n)) (Some p) =
    StandsFor limit p (first_process (family.read_launch l).0 (family.read_launch l).1)

-- why it can't be begun
abbrev pub StartsNot : ℕ → Option (calls.Launch × ℕ) → FamilyFault → Type 0
StartsNot limit None fault.NoMemory = Unit {0}
StartsNot limit None _ = ⊥
StartsNot limit (Some (l, n)) f = BeginsNot limit (family.read_launch l).0 (family.read_launch l).1 f
