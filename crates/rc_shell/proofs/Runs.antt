-- Runs of a script's code from the beginning, in words of its meaning.
use Rattle.std.proofs.Common.{◌≡◌, ℕ, ◌+◌, List, [], ◌∷◌, ◌++◌, Option, Result, Ok, Err, refl, ap, ◌∙◌, sym, subst, arith, append-nil}
use Rattle.std.specs.declared.alloc.AllocError.{AllocError}
use Rattle.rc_model.specs.Run.Calls.{Event, refused, event, calls, answers, plain}
use Rattle.rc_model.specs.declared.call.Fault.TheVariants.{Halt as halt}
use Rattle.rc_model.specs.Code.Machine.{Config, exec, begin}
use Rattle.rc_model.specs.Run.Plans.{Plan, done_with, ask, cut, calls_made, Goes, RanBetween, Halted}
use Rattle.rc_model.specs.Code.Layout.{Code, code}
use Rattle.rc_model.specs.Run.Script.{Recorded, IsPrefix, StopsAtLimit, run, script}
use Rattle.rc_model.specs.Run.State.{State}
use Rattle.rc_model.specs.Syntax.Tree.{Node, cmd}
use Rattle.law_machine.proofs.Recorded as recorded
use Rattle.law_plans.proofs.Plays.{ends_over, waits_over, cut_over, halts_over}
use Rattle.rc_machine.specs.Runs.{CameSomewhere, Reached, RunsTo}
use Rattle.rc_machine.specs.declared.machine.Progress.{Progress}
use Rattle.rc_machine.specs.declared.machine.Progress.TheVariants as progress
use Rattle.rc_shell.specs.Outcome.{EndsWithin, HaltsWithin, IsOutcome, IsBegunWithin, RunsAsMeant}
use Rattle.rc_shell.specs.declared.run.Ran.{Ran as Finished}
use Rattle.rc_shell.specs.declared.run.Ran.TheVariants.{Ended, Limit, Halted as Halting}
use Rattle.rc_shell.specs.declared.run.ShellFault.{ShellFault}
use Rattle.law_plans.proofs.Recordings.{extend_nil}

-- the calls of a run that was left somewhere are the first ones of the whole run
begins_run : (limit : ℕ) (t : Node cmd) (s : State) (trace : List Event) (p : Plan State) → Goes (exec limit (begin t s)) trace p
    → IsPrefix (calls trace) (calls_made (run limit t s (answers trace)))
begins_run limit t s trace (done_with end) g = record { rest = []; is = ap calls_made (ends_over (exec limit (begin t s)) trace end g) ∙ sym (append-nil (calls trace)) }
begins_run limit t s trace (ask call go) g = record { rest = call ∷ []; is = ap calls_made (waits_over (exec limit (begin t s)) trace call go g) }
begins_run limit t s trace cut g = record { rest = []; is = ap calls_made (cut_over (exec limit (begin t s)) trace g) ∙ sym (append-nil (calls trace)) }

module _ (limit : ℕ) (t : Node cmd) (s : State) (a b : Option (List Event)) where
  pub recorded_ended : (end : State) → RanBetween a b (exec limit (begin t s)) (done_with end) → Recorded a b (λ trace. EndsWithin limit t s trace end)
  recorded_ended end f =
      (f.trace, f.recorded, record { ran = ends_over (exec limit (begin t s)) f.trace end f.goes; meant = recorded.ended_as_meant limit t s end f.trace f.goes })

  pub recorded_limit : (now : Config) → Reached a b limit (begin t s) now → Recorded a b (λ trace. StopsAtLimit limit t s trace)
  recorded_limit now here =
      let e : limit + 0 ≡ limit = omega arith in
      let f : RanBetween a b (exec limit (begin t s)) cut = subst (λ n. RanBetween a b (exec n (begin t s)) cut) e (here 0) in
      (f.trace, f.recorded, recorded.stopped_at_limit limit t s f.trace f.goes)

  pub recorded_halted : Halted a b (exec limit (begin t s)) → Recorded a b (λ trace. HaltsWithin limit t s trace)
  recorded_halted f = (
    f.trace ++ event f.call (refused halt) ∷ [],
    f.recorded,
    record { ran = halts_over (exec limit (begin t s)) f.trace f.call f.go f.goes; meant = recorded.halted_as_meant limit t s f.trace f.call f.go f.goes },
  )

  pub recorded_begun : CameSomewhere a b (exec limit (begin t s)) → Recorded a b (λ trace. IsBegunWithin limit t s trace)
  recorded_begun f = (
    f.1.trace,
    f.1.recorded,
    record { ran = begins_run limit t s f.1.trace f.0 f.1.goes; meant = recorded.begun_as_meant limit t s f.1.trace f.0 f.1.goes },
  )

  -- nothing was called
  pub recorded_nothing : Recorded a a (λ trace. IsBegunWithin limit t s trace)
  recorded_nothing = (
    [],
    extend_nil a,
    record { ran = record { rest = calls_made (run limit t s []); is = refl }; meant = (0, record { rest = calls_made (script 0 t s []); is = refl }) },
  )

  -- a script whose machine came so far has run as it is meant
  pub recorded_run : (now : Config) (came : Result Progress AllocError) (result : Result Finished ShellFault)
      → RunsTo a b limit (begin t s) now came → IsOutcome came now.state result → Recorded a b (λ trace. RunsAsMeant limit t s trace result)
  recorded_run now (Ok progress.Ended) (Ok (Ended end)) to is = rw is (recorded_ended now.state to)
  recorded_run now (Ok progress.Ended) (Ok Limit) to is = absurd is
  recorded_run now (Ok progress.Ended) (Ok Halting) to is = absurd is
  recorded_run now (Ok progress.Ended) (Err e) to is = absurd is
  recorded_run now (Ok progress.Limit) result to is = rw is (recorded_limit now to)
  recorded_run now (Ok progress.Halted) result to is = rw is (recorded_halted to)
  recorded_run now (Err e) result to is = rw is (recorded_begun to)

-- the machine of a script's code begins the script
pub begins : (t : Node cmd) (s : State) (c : Code) (m : Config)
    → m ≡ record { code = c; counter = 0; frames = []; words = []; scopes = []; slots = plain; state = s } → c ≡ code t → m ≡ begin t s
begins t s c m e h = e ∙ ap (λ k. let b : Config = record { code = k; counter = 0; frames = []; words = []; scopes = []; slots = plain; state = s } in b) h
