-- The steps of a family: each is refused or made, and what is known of families that were made.
use Rattle.std.proofs.Common.{◌≡◌, ◌⊎◌, inl, inr, ℕ, ◌<◌, List, [], ◌∷◌, Option, Some, None, refl, sym, ◌∙◌, subst, arith}
use Rattle.std.proofs.lemmas.Bool.{cases_lt}
use Rattle.std.proofs.lemmas.Bool.Decides.{eqb_tells}
use Rattle.rc_model.specs.Run.Calls.{Launch, Call, Answer}
use Rattle.rc_model.specs.Run.Plans.{IsAnswered}
use Rattle.rc_model.specs.Run.State.{State}
use Rattle.rc_model.specs.Syntax.Tree.{Node, cmd}
use Rattle.rc_model.specs.Family.Accounts.{put}
use Rattle.rc_model.specs.Family.Family.{Process, Family, FamilyEvent, IsPending, GoesAsMeant, EachOf, shell_started, child_process, recorded}
use Rattle.rc_model.specs.Family.Family.{with_trace, with_child, stepped, family, first, ArePossible, IsPossible, AreFresh, Sane}
use Rattle.rc_model.specs.Family.Steps.{HitsLimit, IsInTime, IsCutShort, StepFault, NoProcess, AtEnd, WrongKind, AtLimit, AppendsSuch, IsStepRefused, IsMade, CanMake, AreMade, IsMadeBy, IsAsMade}
use Rattle.law_family.specs.StepLaws.{OneBeginning}
use Rattle.law_traces.proofs.Keep.{put_self, put_other}
use Rattle.law_family.proofs.Family.{stays}
use Rattle.law_family.proofs.Members.{one_per_start, handed_so, family_is_sane}
use Rattle.law_family.proofs.Answered.{answers_or_not}
use Rattle.law_family.proofs.Processes.{pending_of, ended_of, meant_of, not_both, one_pending, with_answer, at_beginning, not_hit, answered_means, beginning_means}

-- ** it holds of each process after a step, where it holds of the one that was answered and of the child
module _ (P : Process → Type 0) (reads : Launch → Node cmd × State) where
  on_trace : (f : Family) (e : FamilyEvent) → EachOf P f → P (recorded (f.at e.at) e.call e.answer) → (j : ℕ) → j < f.count → P ((with_trace f e).at j)
  on_trace f e t u j l = elim (eqb_tells e.at j) [
    | inl y ↦ subst (λ i. P (put f.at e.at (recorded (f.at e.at) e.call e.answer) i)) y.1 (subst P (sym (put_self f.at e.at (recorded (f.at e.at) e.call e.answer))) u)
    | inr y ↦ subst P (sym (put_other f.at e.at (recorded (f.at e.at) e.call e.answer) j y.1)) (t j l)
  ]

  abbrev pub OfChild : ℕ → Process → Option (Launch × ℕ) → Type 0
  OfChild k p None = Unit {0}
  OfChild k p (Some (l, n)) = P (child_process reads k p l n)

  on_child : (f : Family) (k : ℕ) (p : Process) (o : Option (Launch × ℕ)) → EachOf P f → OfChild k p o → EachOf P (with_child reads f k p o)
  on_child f k p None t u j l = t j l
  on_child f k p (Some (d, n)) t u j l = elim (eqb_tells f.count j) [
    | inl y ↦ subst (λ i. P (put f.at f.count (child_process reads k p d n) i)) y.1 (subst P (sym (put_self f.at f.count (child_process reads k p d n))) u)
    | inr y ↦ subst P (sym (put_other f.at f.count (child_process reads k p d n) j y.1)) (t j (omega arith))
  ]

  pub on_step : (f : Family) (e : FamilyEvent) → EachOf P f → P (recorded (f.at e.at) e.call e.answer) → OfChild e.at (f.at e.at) (shell_started e.call e.answer) → EachOf P (stepped reads f e)
  on_step f e t u v = on_child (with_trace f e) e.at (f.at e.at) (shell_started e.call e.answer) (on_trace f e t u) v

  -- and back
  pub own_of : (f : Family) (e : FamilyEvent) → e.at < f.count → EachOf P (stepped reads f e) → P (recorded (f.at e.at) e.call e.answer)
  own_of f e r t =
      subst P (stays reads f e e.at r ∙ put_self f.at e.at (recorded (f.at e.at) e.call e.answer))
      (subst (λ n. P ((stepped reads f e).at n)) refl (t e.at (in_stepped (shell_started e.call e.answer))))
    where
      in_stepped : (o : Option (Launch × ℕ)) → e.at < (with_child reads (with_trace f e) e.at (f.at e.at) o).count
      in_stepped None = r
      in_stepped (Some (l, n)) = omega arith

  pub child_of : (f : Family) (k : ℕ) (p : Process) (o : Option (Launch × ℕ)) → EachOf P (with_child reads f k p o) → OfChild k p o
  child_of f k p None t = tt
  child_of f k p (Some (d, n)) t = subst P (put_self f.at f.count (child_process reads k p d n)) (t f.count (omega arith))

module _ (reads : Launch → Node cmd × State) (limit : ℕ) where
  -- ** each answer is refused or makes a step
  abbrev pub Outcome : Family → ℕ → Answer → Type 0
  Outcome f k x = ((a : StepFault) × IsStepRefused reads limit f k x a) ⊎ CanMake reads limit f k x

  pub made_or_refused : (f : Family) (k : ℕ) (x : Answer) → EachOf (IsInTime limit) f → ((a : StepFault) × IsStepRefused reads limit f k x a) ⊎ CanMake reads limit f k x
  made_or_refused f k x t = elim (cases_lt k f.count) [
    | inl l ↦ in_family l (t k l)
    | inr l ↦ inl (NoProcess, l)
  ]
    where
      with_child_too : (l : k < f.count) (c : Call) → IsPending (f.at k) c → IsAnswered c x → IsInTime limit (recorded (f.at k) c x)
          → (o : Option (Launch × ℕ)) → shell_started c x ≡ o → Outcome f k x
      with_child_too l c i a u None s = inr (record {
        call = c;
        made = record {
          in_family = l;
          pending = i;
          answered = a;
          in_time = on_step (IsInTime limit) reads f (record { at = k; call = c; answer = x }) t u (subst (OfChild (IsInTime limit) reads k (f.at k)) (sym s) tt);
        };
      })
      with_child_too l c i a u (Some (d, n)) s = elim (at_beginning limit (child_process reads k (f.at k) d n) refl) [
        | inl v ↦ inr (record {
          call = c;
          made = record {
            in_family = l;
            pending = i;
            answered = a;
            in_time = on_step (IsInTime limit) reads f (record { at = k; call = c; answer = x }) t u (subst (OfChild (IsInTime limit) reads k (f.at k)) (sym s) v);
          };
        })
        | inr h ↦ inl (AtLimit, (l, (c, i, a, inr (subst (AppendsSuch reads (HitsLimit limit) k (f.at k)) (sym s) h))))
      ]

      in_family : k < f.count → IsInTime limit (f.at k) → Outcome f k x
      in_family l (inr e) = inl (AtEnd, (l, ended_of limit (f.at k) e))
      in_family l (inl w) =
          let i = pending_of limit (f.at k) w.0 w.1 in
          elim (answers_or_not w.0 x) [
            | inl a ↦ elim (with_answer limit (f.at k) w.0 x w.1 a) [
              | inl u ↦ with_child_too l w.0 i a u (shell_started w.0 x) refl
              | inr h ↦ inl (AtLimit, (l, (w.0, i, a, inl h)))
            ]
            | inr n ↦ inl (WrongKind, (l, (w.0, i, n)))
          ]

  -- ** never both
  no_child : (k : ℕ) (p : Process) (o : Option (Launch × ℕ)) → OfChild (IsInTime limit) reads k p o → AppendsSuch reads (HitsLimit limit) k p o → ⊥
  no_child k p None t h = h
  no_child k p (Some (l, n)) t h = not_hit limit (child_process reads k p l n) t h

  in_time_not_at_limit : (f : Family) (e : FamilyEvent) → IsMade reads limit f e
      → HitsLimit limit (recorded (f.at e.at) e.call e.answer) ⊎ AppendsSuch reads (HitsLimit limit) e.at (f.at e.at) (shell_started e.call e.answer)
      → ⊥
  in_time_not_at_limit f e m (inl h) = not_hit limit (recorded (f.at e.at) e.call e.answer) (own_of (IsInTime limit) reads f e m.in_family m.in_time) h
  in_time_not_at_limit f e m (inr h) =
      no_child e.at (f.at e.at) (shell_started e.call e.answer)
      (child_of (IsInTime limit) reads (with_trace f e) e.at (f.at e.at) (shell_started e.call e.answer) m.in_time) h

  pub never_both : (f : Family) (k : ℕ) (x : Answer) (a : StepFault) → IsStepRefused reads limit f k x a → CanMake reads limit f k x → ⊥
  never_both f k x NoProcess r m = let l = m.made.in_family in absurd (omega arith)
  never_both f k x AtEnd r m = not_both (f.at k) m.call m.made.pending r.1
  never_both f k x WrongKind r m = r.1.2 (subst (λ d. IsAnswered d x) (one_pending (f.at k) m.call r.1.0 m.made.pending r.1.1) m.made.answered)
  never_both f k x AtLimit r m =
      let same = one_pending (f.at k) r.1.0 m.call r.1.1 m.made.pending in
      in_time_not_at_limit f (record { at = k; call = m.call; answer = x }) m.made
      (subst (λ d. HitsLimit limit (recorded (f.at k) d x) ⊎ AppendsSuch reads (HitsLimit limit) k (f.at k) (shell_started d x)) same r.1.3)

  pub one_call : (f : Family) (d e : FamilyEvent) → IsMade reads limit f d → IsMade reads limit f e → d.at ≡ e.at → d.call ≡ e.call
  one_call f d e m n s = one_pending (f.at d.at) d.call e.call m.pending (subst (λ i. IsPending (f.at i) e.call) (sym s) n.pending)

  -- ** families that were made
  pub possible : (es : List FamilyEvent) (f : Family) → AreMade reads limit f es → ArePossible reads f es
  possible [] f m = tt
  possible (e ∷ es) f m = (record { in_family = m.0.in_family; pending = m.0.pending; answered = m.0.answered }, possible es (stepped reads f e) m.1)

  all_in_time : (es : List FamilyEvent) (f : Family) → EachOf (IsInTime limit) f → AreMade reads limit f es → EachOf (IsInTime limit) (family reads f es)
  all_in_time [] f t m = t
  all_in_time (e ∷ es) f t m = all_in_time es (stepped reads f e) m.0.in_time m.1

  module _ (c : Node cmd) (s : State) (es : List FamilyEvent) (m : IsMadeBy reads limit c s es) where
    pub in_time_after : EachOf (IsInTime limit) (family reads (first reads c s) es)
    in_time_after = all_in_time es (first reads c s) m.begun m.made

    pub meant_after : EachOf GoesAsMeant (family reads (first reads c s) es)
    meant_after j l = meant_of limit ((family reads (first reads c s) es).at j) (in_time_after j l)

    pub as_made : IsAsMade reads limit c s es (family reads (first reads c s) es)
    as_made = record {
      in_time = in_time_after;
      as_meant = meant_after;
      one_per_start = one_per_start reads c s es (possible es (first reads c s) m.made);
      handed = handed_so reads c s es (possible es (first reads c s) m.made);
    }

    pub sane : AreFresh (family reads (first reads c s) es) → Sane reads c s (family reads (first reads c s) es)
    sane f = family_is_sane reads c s es (record { possible = possible es (first reads c s) m.made; as_meant = meant_after; fresh = f })

-- ** where the processes go as they are meant, and nothing is known of their limit
pub next_goes_as_meant : (reads : Launch → Node cmd × State) (limit : ℕ) (f : Family) (e : FamilyEvent) → EachOf GoesAsMeant f → IsPossible f e
    → (IsCutShort limit (recorded (f.at e.at) e.call e.answer) → ⊥)
    → (AppendsSuch reads (IsCutShort limit) e.at (f.at e.at) (shell_started e.call e.answer) → ⊥)
    → EachOf GoesAsMeant (stepped reads f e)
next_goes_as_meant reads limit f e t p n m = on_step GoesAsMeant reads f e t (answered_means limit (f.at e.at) e.call e.answer p.pending p.answered n) (child (shell_started e.call e.answer) m)
  where
    child : (o : Option (Launch × ℕ)) → (AppendsSuch reads (IsCutShort limit) e.at (f.at e.at) o → ⊥) → OfChild GoesAsMeant reads e.at (f.at e.at) o
    child None m = tt
    child (Some (l, k)) m = beginning_means limit (child_process reads e.at (f.at e.at) l k) refl m

pub one_beginning : (limit : ℕ) (p : Process) → p.trace ≡ [] → OneBeginning limit p
one_beginning limit p e = record { either = at_beginning limit p e; not_both = not_hit limit p }
