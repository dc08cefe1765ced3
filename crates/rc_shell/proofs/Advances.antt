-- What a process stands at after its code was run again, and what a step of a family comes to.
use Rattle.std.proofs.Common.{◌≡◌, ◌⊎◌, inl, inr, ℕ, ◌+◌, ◌<◌, ◌≤◌, List, [], ◌∷◌, ◌++◌, map, length, get_or, Option, Some, None, option_map, refl, sym, ap, ◌∙◌, subst, arith}
use Rattle.std.specs.List.{before_first}
use Rattle.rc_model.specs.Run.Calls as calls
use Rattle.rc_model.specs.Run.Calls.{Launch, is_halt, answers}
use Rattle.rc_model.specs.Run.Script.{run}
use Rattle.rc_model.specs.Run.State as model
use Rattle.rc_model.specs.Syntax.Tree.{Node, cmd}
use Rattle.rc_model.specs.Handed.Proper.{IsProperTree}
use Rattle.rc_model.specs.Family.Family as family
use Rattle.rc_model.specs.Family.Family.{IsPending, recorded, shell_started, child_process, read_launch}
use Rattle.rc_model.specs.Family.Steps.{HitsLimit, IsInTime, IsMade, AppendsSuch, answers_at}
use Rattle.law_family.proofs.Grow.{answers_and_one, none_halts}
use Rattle.law_family.proofs.Processes.{pending_of, ended_of, with_answer, at_beginning}
use Rattle.law_family.proofs.Reached.{waits_again, ends_again, cut_again}
use Rattle.law_family.proofs.Steps.{OfChild, on_step, in_time_after}
use Rattle.rc_scope.specs.States.{state_of}
use Rattle.rc_tree.specs.View.{cmd_tree}
use Rattle.rc_world.specs.Views.{call_of}
use Rattle.rc_world.specs.declared.event.Call.{Call}
use Rattle.rc_shell.specs.Changes.{Changes, WaitsAt, IsAnsweredAt, IsNotAnswered}
use Rattle.rc_shell.specs.Families.{Holds, made_of}
use Rattle.rc_shell.specs.Held.{Held}
use Rattle.rc_shell.specs.Made.{BeginsNot, IsAnswering, PendingAt, StepsNot, answering, first_process, processes, waits, ended, no_process}
use Rattle.rc_shell.specs.ReplayEnds.{IsReached, ComesTo, ComesNot}
use Rattle.rc_shell.specs.Standings.{StandsAt, StandsFor, StartsAs, StartsNot, step_of}
use Rattle.rc_shell.specs.declared.family.family_fault.FamilyFault.{FamilyFault}
use Rattle.rc_shell.specs.declared.family.family_fault.FamilyFault.TheVariants as fault
use Rattle.rc_shell.specs.declared.family.process_steps.Change.{Change}
use Rattle.rc_shell.specs.declared.family.process_steps.Process.{Process}
use Rattle.rc_shell.specs.declared.family.replaying.ReplayEnd.TheVariants.{Limit}

-- ** a process whose code was run again over its answers
module _ (limit : ℕ) (q : family.Process) (either : IsInTime limit q ⊎ HitsLimit limit q) (t : Node cmd) (s : model.State) (given : List calls.Answer) (same_tree : t ≡ q.tree) (same_state : s ≡ q.state) (same_answers : given ≡ answers q.trace) where
  runs_as : run limit t s (before_first is_halt given) ≡ run limit q.tree q.state (answers q.trace)
  runs_as =
      ap (λ z. run limit z s (before_first is_halt given)) same_tree
      ∙ (ap (λ z. run limit q.tree z (before_first is_halt given)) same_state
      ∙ ap (run limit q.tree q.state) (ap (before_first is_halt) same_answers ∙ none_halts q.trace))

  pub stands_at : (o : Option Call) → ComesTo limit t s (before_first is_halt given) o → StandsAt limit q o
  stands_at (Some c) r = waits_again limit q r.0 (call_of c) either (sym runs_as ∙ r.1)
  stands_at None r = ends_again limit q r.0 r.1 r.2 either (sym runs_as ∙ r.3)

  pub hits_limit : IsReached limit t s (before_first is_halt given) Limit → HitsLimit limit q
  hits_limit r = cut_again limit q r.0 either (sym runs_as ∙ r.1)

-- before any answer
module _ (limit : ℕ) (t : Node cmd) (s : model.State) (given : List calls.Answer) (none : given ≡ []) where
  pub begins_at : (o : Option Call) → ComesTo limit t s (before_first is_halt given) o → StandsAt limit (first_process t s) o
  begins_at o r = stands_at limit (first_process t s) (at_beginning limit (first_process t s) refl) t s given refl refl none o r

  pub begins_not : (f : FamilyFault) → ComesNot limit t s (before_first is_halt given) f → BeginsNot limit t s f
  begins_not fault.Limit r = hits_limit limit (first_process t s) (at_beginning limit (first_process t s) refl) t s given refl refl none r
  begins_not fault.NoMemory r = tt
  begins_not fault.NoProcess r = absurd r
  begins_not fault.Ended r = absurd r
  begins_not fault.WrongKind r = absurd r

pub in_time : (limit : ℕ) (q : family.Process) (o : Option Call) → StandsAt limit q o → IsInTime limit q
in_time limit q (Some c) h = inl (call_of c, h)
in_time limit q None h = inr h

-- ** the shell that was started
in_time_child : (limit k : ℕ) (p : family.Process) (o : Option (Launch × ℕ)) (child : Option Process) → StartsAs limit o child → OfChild (IsInTime limit) read_launch k p o
in_time_child limit k p None child h = tt
in_time_child limit k p (Some (l, n)) None h = absurd h
in_time_child limit k p (Some (l, n)) (Some c) h = in_time limit (first_process (read_launch l).0 (read_launch l).1) c.pending h.at

at_child : (limit k : ℕ) (p : family.Process) (l : Launch) (n : ℕ) (o : Option Call) → StandsAt limit (first_process (read_launch l).0 (read_launch l).1) o → StandsAt limit (child_process read_launch k p l n) o
at_child limit k p l n (Some c) h = h
at_child limit k p l n None h = h

pub stands_for_child : (limit k : ℕ) (p : family.Process) (l : Launch) (n : ℕ) (c : Process) → StandsFor limit c (first_process (read_launch l).0 (read_launch l).1) → StandsFor limit c (child_process read_launch k p l n)
stands_for_child limit k p l n c h = record { tree = h.tree; state = h.state; proper = h.proper; at = at_child limit k p l n c.pending h.at }

hits_child : (limit k : ℕ) (p : family.Process) (o : Option (Launch × ℕ)) → StartsNot limit o fault.Limit → AppendsSuch read_launch (HitsLimit limit) k p o
hits_child limit k p None h = h
hits_child limit k p (Some (l, n)) h = h

-- ** what values stand for

-- some process of a list that has one
pub some_process : (ps : List Process) (k : ℕ) → k < length ps → Process
some_process [] k l = absurd (omega (arith, l))
some_process (p ∷ ps) k l = p

module _ (h : Held) (holds : Holds h) where
  abbrev the_family : family.Family
  the_family = processes (made_of h)

  inside : (k : ℕ) → k < length h.processes → k < the_family.count
  inside k l = let e = holds.stand.count in omega (arith, l, e)

  stands_here : (k : ℕ) (o : Option Call) → WaitsAt h.processes k o → StandsAt h.limit (the_family.at k) o
  stands_here k o w =
      subst (StandsAt h.limit (the_family.at k)) (w.1 (some_process h.processes k w.0)) (holds.stand.each k (some_process h.processes k w.0) w.0).at

  pending_here : (k : ℕ) (c : Call) → WaitsAt h.processes k (Some c) → IsPending (the_family.at k) (call_of c)
  pending_here k c w = pending_of h.limit (the_family.at k) (call_of c) (stands_here k (Some c) w)

  -- the call that was found
  pub answers_call : (k : ℕ) (c : Call) (x : calls.Answer) → IsAnsweredAt h.processes k c x → IsAnswering (made_of h) k x
  answers_call k c x a = record { in_family = inside k a.0.0; call = call_of c; pending = pending_here k c a.0; answered = a.1 }

  -- no call was found
  pub answers_none : (k : ℕ) (x : calls.Answer) (f : FamilyFault) → IsNotAnswered h.processes k x f → StepsNot (made_of h) k x f
  answers_none k x fault.NoProcess n = let e = holds.stand.count in omega (arith, n, e)
  answers_none k x fault.Ended n = (inside k n.0, ended_of h.limit (the_family.at k) (stands_here k None n))
  answers_none k x fault.WrongKind n = (inside k n.1.0, (call_of n.0, pending_here k n.0 n.1, n.2))
  answers_none k x fault.Limit n = absurd n
  answers_none k x fault.NoMemory n = absurd n

  -- the pending call by the value of the process
  pub pending_at : (k : ℕ) (p : Process) → k < length h.processes → p ≡ get_or h.processes k p → PendingAt (made_of h) k (option_map call_of p.pending)
  pending_at k p l e = by_case p.pending (subst (λ z. StandsAt h.limit (the_family.at k) z.pending) (sym e) (holds.stand.each k p l).at)
    where
      by_case : (o : Option Call) → StandsAt h.limit (the_family.at k) o → PendingAt (made_of h) k (option_map call_of o)
      by_case (Some c) w = waits (call_of c) (inside k l) (pending_of h.limit (the_family.at k) (call_of c) w)
      by_case None w = ended (inside k l) (ended_of h.limit (the_family.at k) w)

  pub pending_past : (k : ℕ) → length h.processes ≤ k → PendingAt (made_of h) k None
  pending_past k l = no_process (let e = holds.stand.count in omega (arith, l, e))

  -- the process that was answered, and the answers that it has then
  module _ (k : ℕ) (c : Call) (x : calls.Answer) (p : Process) (is : p ≡ get_or h.processes k p) (a : IsAnsweredAt h.processes k c x)
      (given : List calls.Answer) (are : given ≡ answers_at k (map step_of h.steps) ++ x ∷ []) where
    abbrev after : family.Process
    after = recorded (the_family.at k) (call_of c) x

    after_either : IsInTime h.limit after ⊎ HitsLimit h.limit after
    after_either = with_answer h.limit (the_family.at k) (call_of c) x (stands_here k (Some c) a.0) a.1

    given_after : given ≡ answers after.trace
    given_after = are ∙ sym (answers_and_one read_launch h.limit (made_of h).tree (made_of h).state (made_of h).steps k (call_of c) x holds.made a.1.came)

    stands_for : StandsFor h.limit p (the_family.at k)
    stands_for = subst (λ z. StandsFor h.limit z (the_family.at k)) (sym is) (holds.stand.each k p a.0.0)

    pub process_proper : IsProperTree (cmd_tree p.cmd)
    process_proper = subst IsProperTree (sym stands_for.tree) stands_for.proper

    next_stands : (o : Option Call) → ComesTo h.limit (cmd_tree p.cmd) (state_of p.state) (before_first is_halt given) o → StandsAt h.limit after o
    next_stands o r = stands_at h.limit after after_either (cmd_tree p.cmd) (state_of p.state) given stands_for.tree stands_for.state given_after o r

    -- why the step is refused, where the call was found
    pub next_refused : (f : FamilyFault) → ComesNot h.limit (cmd_tree p.cmd) (state_of p.state) (before_first is_halt given) f → StepsNot (made_of h) k x f
    next_refused fault.Limit r =
        (inside k a.0.0, (call_of c, pending_here k c a.0, a.1, inl (hits_limit h.limit after after_either (cmd_tree p.cmd) (state_of p.state) given stands_for.tree stands_for.state given_after r)))
    next_refused fault.NoMemory r = answers_call k c x a
    next_refused fault.NoProcess r = absurd r
    next_refused fault.Ended r = absurd r
    next_refused fault.WrongKind r = absurd r

    pub child_refused : (f : FamilyFault) → StartsNot h.limit (shell_started (call_of c) x) f → StepsNot (made_of h) k x f
    child_refused f r = by_case (shell_started (call_of c) x) refl f r
      where
        by_case : (o : Option (Launch × ℕ)) → shell_started (call_of c) x ≡ o → (f : FamilyFault) → StartsNot h.limit o f → StepsNot (made_of h) k x f
        by_case o e fault.NoMemory r = answers_call k c x a
        by_case o e fault.Limit r =
            (inside k a.0.0, (call_of c, pending_here k c a.0, a.1, inr (subst (AppendsSuch read_launch (HitsLimit h.limit) k (the_family.at k)) (sym e) (hits_child h.limit k (the_family.at k) o r))))
        by_case None e fault.NoProcess r = absurd r
        by_case None e fault.Ended r = absurd r
        by_case None e fault.WrongKind r = absurd r
        by_case (Some (l, n)) e fault.NoProcess r = absurd r
        by_case (Some (l, n)) e fault.Ended r = absurd r
        by_case (Some (l, n)) e fault.WrongKind r = absurd r

    made_so : (o : Option Call) (child : Option Process) → StandsAt h.limit after o → StartsAs h.limit (shell_started (call_of c) x) child
        → IsMade read_launch h.limit the_family (answering k (call_of c) x)
    made_so o child w z = record {
      in_family = inside k a.0.0;
      pending = pending_here k c a.0;
      answered = a.1;
      in_time = on_step (IsInTime h.limit) read_launch the_family (answering k (call_of c) x) (in_time_after read_launch h.limit (made_of h).tree (made_of h).state (made_of h).steps holds.made)
          (in_time h.limit after o w) (in_time_child h.limit k (the_family.at k) (shell_started (call_of c) x) child z);
    }

    -- what the step changes
    pub changes : (change : Change) → call_of change.kept ≡ call_of c → call_of change.answered ≡ call_of c
        → ComesTo h.limit (cmd_tree p.cmd) (state_of p.state) (before_first is_halt given) change.pending
        → StartsAs h.limit (shell_started (call_of c) x) change.child → Changes h k x change
    changes change kept answered r z =
        let w = next_stands change.pending r in
        record {
          in_family = a.0.0;
          same = answered ∙ sym kept;
          made = subst (λ e. IsMade read_launch h.limit the_family (answering k e x)) (sym kept) (made_so change.pending change.child w z);
          stands = subst (λ e. StandsAt h.limit (recorded (the_family.at k) e x) change.pending) (sym kept) w;
          starts = subst (λ e. StartsAs h.limit (shell_started e x) change.child) (sym kept) z;
        }
