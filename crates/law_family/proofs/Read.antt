-- Each shell of a family begins with what it was handed.
use Rattle.std.proofs.Common.{◌≡◌, ℕ, zero, suc, ◌<◌, List, [], ◌∷◌, ◌++◌, sym, ap, ◌∙◌, subst, arith}
use Rattle.std.specs.Prelude.{unwrap_or}
use Rattle.rc_model.specs.Syntax.Tree.{Node, cmd, Empty}
use Rattle.rc_model.specs.Run.Calls.{start, child, Event, event, calls}
use Rattle.rc_model.specs.Run.State.{State, new_state}
use Rattle.rc_model.specs.Handed.Arguments.{entry_state}
use Rattle.rc_model.specs.Handed.Proper.{IsProperTree, IsProper}
use Rattle.rc_model.specs.Handed.HandedLaws.{ReadsBack, ReadBackBy, AllReadBack, IsReadBack}
use Rattle.rc_model.specs.Family.Family.{Family, GoesAsMeant, EachOf, family, first, WasStarted, HandedSo, read_launch, BeganAsHanded, BeganSo, FamiliesRead}
use Rattle.law_image.proofs.Proper.{proper_entry}
use Rattle.law_handed.proofs.Played.{traces_read_back}
use Rattle.law_family.proofs.Accounts.{begun}
use Rattle.law_family.proofs.Members.{handed_so}

-- what stands in a trace reads back
within : (before : List Event) (e : Event) (later : List Event) → AllReadBack (calls (before ++ e ∷ later)) → ReadsBack e.call
within [] e later h = h.0
within (d ∷ ds) e later h = within ds e later h.1

started_back : (f : Family) (j k : ℕ) (w : WasStarted read_launch f j k) → AllReadBack (calls (f.at k).trace) → IsReadBack w.launch
started_back f j k w h = subst (λ o. ReadBackBy o w.launch) w.shell (within w.before (event (start w.launch) (child w.number)) w.later (subst (λ t. AllReadBack (calls t)) w.in_trace h))

began : (f : Family) (j k : ℕ) (w : WasStarted read_launch f j k) → IsReadBack w.launch → IsProperTree (f.at j).tree × IsProper (f.at j).state × BeganAsHanded f j k
began f j k w r =
    let e : read_launch w.launch ≡ (r.handed.tree, entry_state r.handed.state) = ap (λ o. unwrap_or o (Empty, new_state)) r.back in
    let tree : (f.at j).tree ≡ r.handed.tree = w.tree ∙ ap (λ x. x.0) e in
    let state : (f.at j).state ≡ entry_state r.handed.state = w.state ∙ ap (λ x. x.1) e in (
      subst IsProperTree (sym tree) r.tree,
      subst IsProper (sym state) (proper_entry r.handed.state r.state),
      record { started = w; handed = r.handed; tree = tree; state = state },
    )

module _ (c : Node cmd) (s : State) (b : IsProperTree c) (p : IsProper s) (f : Family) (meant : EachOf GoesAsMeant f) (handed : (j : ℕ) → j < f.count → HandedSo read_launch c s f j) where
  abbrev IsRead : ℕ → Type 0
  IsRead j = IsProperTree (f.at j).tree × IsProper (f.at j).state × BeganSo f j

  -- a shell that was started by one that began so
  next : (j : ℕ) → suc j < f.count → ((k : ℕ) → k < suc j → k < f.count → IsRead k) → IsRead (suc j)
  next j l ih =
      let w = handed (suc j) l in
      let e = w.1.earlier in
      let below : w.0 < f.count = omega arith in
      let parent = ih w.0 e below in
      let back = traces_read_back (f.at w.0).tree (f.at w.0).state (f.at w.0).trace parent.0 parent.1 (begun (f.at w.0) (meant w.0 below)) in
      let k = began f (suc j) w.0 w.1 (started_back f (suc j) w.0 w.1 back) in
      (k.0, k.1, (w.0, k.2))

  all_below : (n j : ℕ) → j < n → j < f.count → IsRead j
  all_below zero j l m = absurd (omega arith)
  all_below (suc n) zero l m = let h = handed 0 m in (subst IsProperTree (sym h.0) b, subst IsProper (sym h.1) p, tt)
  all_below (suc n) (suc j) l m = next j m (λ k lt below. all_below n k (omega arith) below)

pub families_read : FamiliesRead
families_read c s es b p possible meant = λ j l. all_below c s b p (family read_launch (first read_launch c s) es) meant (handed_so read_launch c s es possible) (suc j) j (omega arith) l
