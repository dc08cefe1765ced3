-- That a run that is as meant isn't cut short.
use Rattle.std.proofs.Common.{ℕ, List, Option, Result, Ok, Err}
use Rattle.law_machine.proofs.Limits.{enough_is_no_limit}
use Rattle.rc_model.specs.Run.Calls.{Event}
use Rattle.rc_model.specs.Run.Script.{Recorded}
use Rattle.rc_model.specs.Run.State as model
use Rattle.rc_model.specs.Syntax.Tree.{Node, cmd}
use Rattle.rc_shell.specs.Outcome.{RunsAsMeant}
use Rattle.rc_shell.specs.Executed.{IsNotCutShort}
use Rattle.rc_shell.specs.declared.run.Ran.{Ran}
use Rattle.rc_shell.specs.declared.run.Ran.TheVariants.{Ended, Limit, Halted}
use Rattle.rc_shell.specs.declared.run.ShellFault.{ShellFault}

not_cut : (limit : ℕ) (t : Node cmd) (s : model.State) (trace : List Event) (result : Result Ran ShellFault) → RunsAsMeant limit t s trace result → IsNotCutShort limit t s trace result
not_cut limit t s trace (Ok Limit) r given count on enough le e = enough_is_no_limit t s given count limit trace enough le on r
not_cut limit t s trace (Ok (Ended end)) r given count on enough le e = cc
not_cut limit t s trace (Ok Halted) r given count on enough le e = cc
not_cut limit t s trace (Err f) r given count on enough le e = cc

pub not_cut_short : (before after : Option (List Event)) (limit : ℕ) (t : Node cmd) (s : model.State) (result : Result Ran ShellFault) →
    Recorded before after (λ trace. RunsAsMeant limit t s trace result) → Recorded before after (λ trace. IsNotCutShort limit t s trace result)
not_cut_short before after limit t s result k = (k.0, k.1, not_cut limit t s k.0 result k.2)
