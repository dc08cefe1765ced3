-- How far the code of a process comes over its answers, by a run of its machine over a world that plays them.
use Rattle.std.proofs.Common.{◌≡◌, ℕ, ◌+◌, ◌<◌, List, [], ◌∷◌, ◌++◌, append_assoc, append-nil, length, Option, Some, Result, Ok, Err, IfOk, sym, ap, ◌∙◌, subst, arith}
use Rattle.std.proofs.lemmas.List.{map-append}
use Rattle.std.specs.declared.alloc.AllocError.{AllocError}
use Rattle.rc_model.specs.Run.Calls.{Call, Answer, refused, Event, event, calls, extend}
use Rattle.rc_model.specs.declared.call.Fault.TheVariants.{Halt}
use Rattle.rc_model.specs.Code.Machine.{Config, exec, begin}
use Rattle.rc_model.specs.Run.Plans.{done_with, ask, cut, Ends, Waits, Cut, RanBetween, Halted}
use Rattle.rc_model.specs.Run.Script.{run}
use Rattle.rc_model.specs.Run.State.{State}
use Rattle.rc_model.specs.Syntax.Tree.{Node, cmd}
use Rattle.law_plans.proofs.Plays.{preceded, preceded_ends, preceded_waits, preceded_cut}
use Rattle.rc_machine.specs.Runs.{RunsTo}
use Rattle.rc_machine.specs.declared.machine.Progress.{Progress}
use Rattle.rc_machine.specs.declared.machine.Progress.TheVariants as progress
use Rattle.rc_world.specs.Tapes.{played}
use Rattle.rc_world.proofs.Tapes.{played_calls}
use Rattle.rc_shell.specs.ReplayEnds.{IsReached, IsSaid}
use Rattle.rc_shell.specs.Replays.{announced}
use Rattle.rc_shell.specs.declared.family.replaying.ReplayEnd.{ReplayEnd}
use Rattle.rc_shell.specs.declared.family.replaying.ReplayEnd.TheVariants.{Waiting, Ended, Limit}
use Rattle.rc_shell.proofs.Replays.{NoHalt, same_announced, plays_on, waits_there, calls_are, not_empty}

-- how far the code came over these answers, with these calls
abbrev pub CameTo : ℕ → Node cmd → State → List Answer → Progress → List Call → Type 0
CameTo limit t s given progress.Ended made = (end : State) × (left : List Answer) × (run limit t s given ≡ Ends made end left)
CameTo limit t s given progress.Limit made = run limit t s given ≡ Cut made
CameTo limit t s given progress.Halted made = (run limit t s given ≡ Waits made) × (0 < length made)

-- what was recorded between two moments of a world that announces its answers
trace_is : (given all kept : List Answer) (es : List Event) (made : List Call) (trace : List Event) → all ≡ given → es ≡ []
    → Some (announced kept ++ played made kept) ≡ extend (Some (announced all ++ es)) trace → played made given ≡ trace
trace_is given all kept es made trace a n h =
    let x : announced kept ++ played made kept ≡ (announced all ++ es) ++ trace = cc in
    let s = same_announced kept all (played made kept) (es ++ trace) (x ∙ append_assoc (announced all) es trace) in
    ap (played made) (sym (s.0 ∙ a)) ∙ (s.1 ∙ ap (λ l. l ++ trace) n)

module _ (limit : ℕ) (t : Node cmd) (s : State) (given all kept : List Answer) (es : List Event) (made : List Call) (a : all ≡ given) (n : es ≡ []) (h : NoHalt given) where
  abbrev Before : Option (List Event)
  Before = Some (announced all ++ es)

  abbrev After : Option (List Event)
  After = Some (announced kept ++ played made kept)

  came_to_end : (end : State) → RanBetween Before After (exec limit (begin t s)) (done_with end) → CameTo limit t s given progress.Ended made
  came_to_end end r =
      let e = trace_is given all kept es made r.trace a n r.recorded in
      let g = plays_on (exec limit (begin t s)) r.trace (done_with end) [] made given h (e ∙ sym (append-nil r.trace)) r.goes in
      (end, g.left, g.plays ∙ (preceded_ends (calls r.trace) end g.left ∙ ap (λ l. Ends l end g.left) (calls_are made given r.trace e)))

  came_to_limit : RanBetween Before After (exec limit (begin t s)) cut → CameTo limit t s given progress.Limit made
  came_to_limit r =
      let e = trace_is given all kept es made r.trace a n r.recorded in
      let g = plays_on (exec limit (begin t s)) r.trace cut [] made given h (e ∙ sym (append-nil r.trace)) r.goes in
      g.plays ∙ (preceded_cut (calls r.trace) ∙ ap Cut (calls_are made given r.trace e))

  came_to_halt : Halted Before After (exec limit (begin t s)) → CameTo limit t s given progress.Halted made
  came_to_halt r =
      let last = event r.call (refused Halt) ∷ [] in
      let e = trace_is given all kept es made (r.trace ++ event r.call (refused Halt) ∷ []) a n r.recorded in
      let g = plays_on (exec limit (begin t s)) r.trace (ask r.call r.go) (event r.call (refused Halt) ∷ []) made given h e r.goes in
      let w = waits_there r.call r.go g.others g.left g.halts_not g.recorded in
      let c : calls r.trace ++ r.call ∷ [] ≡ made = sym (map-append (λ e. e.call) r.trace (event r.call (refused Halt) ∷ [])) ∙ calls_are made given (r.trace ++ event r.call (refused Halt) ∷ []) e in
      (g.plays ∙ (ap (preceded (calls r.trace)) w ∙ (preceded_waits (calls r.trace) r.call ∙ ap Waits c)), subst (λ l. 0 < length l) c (not_empty (calls r.trace) r.call))

  came : (now : Config) (came : Progress) → RunsTo Before After limit (begin t s) now (Ok came) → CameTo limit t s given came made
  came now progress.Ended r = came_to_end now.state r
  came now progress.Limit r =
      let e : limit + 0 ≡ limit = omega arith in
      came_to_limit (subst (λ k. RanBetween Before After (exec k (begin t s)) cut) e (r 0))
  came now progress.Halted r = came_to_halt r

  -- the same of a machine at its beginning, by the calls that the world shows
  pub came_so : (m now : Config) (progress : Progress) (called : List Call) → m ≡ begin t s → called ≡ calls (played made kept) → RunsTo Before After limit m now (Ok progress)
      → CameTo limit t s given progress called
  came_so m now progress called e k r =
      subst (CameTo limit t s given progress) (sym (k ∙ sym (played_calls made kept))) (came now progress (subst (λ z. RunsTo Before After limit z now (Ok progress)) e r))

reached_so : (limit : ℕ) (t : Node cmd) (s : State) (given : List Answer) (came : Progress) (made : List Call) (r : ReplayEnd)
    → CameTo limit t s given came made → IsSaid came made r → IsReached limit t s given r
reached_so limit t s given progress.Ended made Ended c h = (made, c.0, c.1, c.2)
reached_so limit t s given progress.Limit made Limit c h = (made, c)
reached_so limit t s given progress.Halted made (Waiting d) c h = (h.0, c.0 ∙ ap Waits h.1)
reached_so limit t s given progress.Ended made Limit c h = absurd h
reached_so limit t s given progress.Ended made (Waiting d) c h = absurd h
reached_so limit t s given progress.Limit made Ended c h = absurd h
reached_so limit t s given progress.Limit made (Waiting d) c h = absurd h
reached_so limit t s given progress.Halted made Ended c h = absurd h
reached_so limit t s given progress.Halted made Limit c h = absurd h

pub is_reached : (limit : ℕ) (t : Node cmd) (s : State) (given : List Answer) (came : Progress) (made : List Call) (r : Result ReplayEnd AllocError)
    → CameTo limit t s given came made → IfOk r (λ x. IsSaid came made x) → IfOk r (λ x. IsReached limit t s given x)
is_reached limit t s given came made (Ok x) c h = reached_so limit t s given came made x c h
is_reached limit t s given came made (Err e) c h = tt

pub halted_called : (limit : ℕ) (t : Node cmd) (s : State) (given : List Answer) (came : Progress) (made : List Call) → CameTo limit t s given came made → came ≡ progress.Halted → 0 < length made
halted_called limit t s given progress.Halted made c e = c.1
halted_called limit t s given progress.Ended made c e = absurd cc
halted_called limit t s given progress.Limit made c e = absurd cc
