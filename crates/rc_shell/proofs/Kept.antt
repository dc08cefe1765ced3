-- What is never lost, and what is handed over, by a run that is as meant.
use Rattle.std.proofs.Common.{ℕ, List, [], append-nil, Option, Result, Ok, Err, sym, ap, ◌∙◌}
use Rattle.rc_model.specs.Handed.Started.{StartsByRule}
use Rattle.rc_model.specs.Handed.Proper.{IsProper, IsProperTree}
use Rattle.rc_model.specs.Syntax.Tree.{Node, cmd}
use Rattle.rc_model.specs.Run.Calls.{Event, calls}
use Rattle.rc_model.specs.Run.Plans.{calls_made}
use Rattle.rc_model.specs.Run.Script.{Recorded, EndsAsMeant, IsBegunAsMeant}
use Rattle.rc_model.specs.Run.State as model
use Rattle.rc_scope.specs.States.{state_of}
use Rattle.rc_scope.proofs.ProperStates.{is_proper}
use Rattle.rc_model.specs.Family.Accounts.{IsFresh, NothingLost}
use Rattle.law_handed.proofs.Played.{traces_start_by_rule}
use Rattle.law_traces.proofs.Traces.{begun_loses_nothing, ended_leaves_nothing}
use Rattle.rc_shell.specs.Outcome.{RunsAsMeant}
use Rattle.rc_shell.specs.Executed.{LeavesNothing, EndsProper}
use Rattle.rc_shell.specs.declared.run.Ran.{Ran}
use Rattle.rc_shell.specs.declared.run.Ran.TheVariants.{Ended, Limit, Halted}
use Rattle.rc_shell.specs.declared.run.ShellFault.{ShellFault}
use Rattle.rc_shell.specs.declared.run.ShellFault.TheVariants.{Syntax, Image, NoMemory}

-- the calls are the first ones of the meaning, however the run ended
ended_begun : (t : Node cmd) (s end : model.State) (trace : List Event) → EndsAsMeant t s trace end → IsBegunAsMeant t s trace
ended_begun t s end trace e = (e.0, record { rest = []; is = ap calls_made e.1 ∙ sym (append-nil (calls trace)) })

begun : (limit : ℕ) (t : Node cmd) (s : model.State) (trace : List Event) (result : Result Ran ShellFault) → RunsAsMeant limit t s trace result → IsBegunAsMeant t s trace
begun limit t s trace (Ok (Ended end)) r = ended_begun t s (state_of end) trace r.meant
begun limit t s trace (Ok Limit) r = r.begun
begun limit t s trace (Ok Halted) r = (r.meant.turns, record { rest = []; is = ap calls_made r.meant.waits ∙ sym (append-nil (calls trace)) })
begun limit t s trace (Err NoMemory) r = r.meant
begun limit t s trace (Err (Syntax fault)) r = absurd r
begun limit t s trace (Err (Image fault)) r = absurd r

leaves : (limit : ℕ) (t : Node cmd) (s : model.State) (trace : List Event) (result : Result Ran ShellFault) → RunsAsMeant limit t s trace result → LeavesNothing s result trace
leaves limit t s trace (Ok (Ended end)) r = ended_leaves_nothing t s trace (state_of end) r.meant
leaves limit t s trace (Ok Limit) r = tt
leaves limit t s trace (Ok Halted) r = tt
leaves limit t s trace (Err e) r = tt

module _ (before after : Option (List Event)) (limit : ℕ) (t : Node cmd) (s : model.State) (result : Result Ran ShellFault) where
  abbrev pub IsMeant : Type 0
  IsMeant = Recorded before after (λ trace. RunsAsMeant limit t s trace result)

  pub loses_nothing : IsMeant → Recorded before after (λ trace. IsFresh s trace → NothingLost s trace)
  loses_nothing k = (k.0, k.1, begun_loses_nothing t s k.0 (begun limit t s k.0 result k.2))

  pub leaves_nothing : IsMeant → Recorded before after (LeavesNothing s result)
  leaves_nothing k = (k.0, k.1, leaves limit t s k.0 result k.2)

  pub reads_back : IsProperTree t → IsProper s → IsMeant → Recorded before after (StartsByRule t s)
  reads_back c p k = (k.0, k.1, traces_start_by_rule t s k.0 c p (begun limit t s k.0 result k.2))

-- the state at the end is proper
pub ended_proper : (result : Result Ran ShellFault) → EndsProper result
ended_proper (Ok (Ended end)) = is_proper end
ended_proper (Ok Limit) = tt
ended_proper (Ok Halted) = tt
ended_proper (Err e) = tt
