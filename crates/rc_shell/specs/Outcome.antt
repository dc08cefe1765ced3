-- How the run of a tree ends, by its limit of instructions and by the meaning of the tree.
use Rattle.std.specs.Prelude.{◌≡◌, ℕ, List, [], Result, Ok, Err}
use Rattle.std.specs.declared.alloc.AllocError.{AllocError}
use Rattle.rc_model.specs.Run.Calls.{Event, calls, answers}
use Rattle.rc_model.specs.Run.Plans.{Ends, Waits, calls_made}
use Rattle.rc_model.specs.Run.Script.{run, IsPrefix, EndsAsMeant, HaltsAsMeant, IsBegunAsMeant, StopsAtLimit}
use Rattle.rc_model.specs.Run.State as model
use Rattle.rc_model.specs.Syntax.Tree.{Node, cmd}
use Rattle.rc_model.specs.declared.fault.InputError.{InputError}
use Rattle.rc_model.specs.declared.fault.InputError.TheVariants as error
use Rattle.rc_model.specs.declared.fault.SyntaxFault.{SyntaxFault}
use Rattle.rc_machine.specs.declared.machine.Progress.{Progress}
use Rattle.rc_machine.specs.declared.machine.Progress.TheVariants as progress
use Rattle.rc_scope.specs.States.{state_of}
use Rattle.rc_shell.specs.declared.run.Ran.{Ran}
use Rattle.rc_shell.specs.declared.run.Ran.TheVariants.{Ended, Limit, Halted}
use Rattle.rc_shell.specs.declared.run.ShellFault.{ShellFault}
use Rattle.rc_shell.specs.declared.run.ShellFault.TheVariants.{Syntax, Image, NoMemory}

-- at most `limit` instructions end in this state, and so does the meaning
pub record EndsWithin (limit : ℕ) (t : Node cmd) (s : model.State) (trace : List Event)
    (end : model.State) : Type 0 where
  pub ran : run limit t s (answers trace) ≡ Ends (calls trace) end []
  pub meant : EndsAsMeant t s trace end

-- at most `limit` instructions wait at the call that was not answered, and so does the meaning
pub record HaltsWithin (limit : ℕ) (t : Node cmd) (s : model.State) (trace : List Event) : Type 0 where
  pub ran : run limit t s (answers trace) ≡ Waits (calls trace)
  pub meant : HaltsAsMeant t s trace

-- the calls are a prefix of those of at most `limit` instructions, and of those of the meaning
pub record IsBegunWithin (limit : ℕ) (t : Node cmd) (s : model.State) (trace : List Event) : Type 0 where
  pub ran : IsPrefix (calls trace) (calls_made (run limit t s (answers trace)))
  pub meant : IsBegunAsMeant t s trace

-- the run of a script that is accepted, by how it ended
abbrev pub RunsAsMeant : (limit : ℕ) → Node cmd → model.State → List Event → Result Ran ShellFault → Type 0
RunsAsMeant limit t s trace (Ok (Ended end)) = EndsWithin limit t s trace (state_of end)
RunsAsMeant limit t s trace (Ok Limit) = StopsAtLimit limit t s trace
RunsAsMeant limit t s trace (Ok Halted) = HaltsWithin limit t s trace
RunsAsMeant limit t s trace (Err NoMemory) = IsBegunWithin limit t s trace
RunsAsMeant limit t s trace (Err (Syntax fault)) = ⊥
RunsAsMeant limit t s trace (Err (Image fault)) = ⊥

-- the fault of the shell for a script that has no code
abbrev pub shell_fault : InputError SyntaxFault → ShellFault
shell_fault (error.Fault fault) = Syntax fault
shell_fault error.NoMemory = NoMemory

-- the outcome of a script whose machine made this progress, with this state
abbrev pub IsOutcome : Result Progress AllocError → model.State → Result Ran ShellFault → Type 0
IsOutcome (Ok progress.Ended) s (Ok (Ended end)) = state_of end ≡ s
IsOutcome (Ok progress.Limit) s result = result ≡ Ok Limit
IsOutcome (Ok progress.Halted) s result = result ≡ Ok Halted
IsOutcome (Err e) s result = result ≡ Err NoMemory
IsOutcome _ s _ = ⊥
