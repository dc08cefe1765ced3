-- A family holds what a family holds: with its first process, and with one step more.
use Rattle.std.proofs.Common.{◌≡◌, inl, inr, ℕ, zero, suc, ◌+◌, ◌-◌, ◌<◌, List, [], ◌∷◌, ◌++◌, map, length, get_or, set, Option, Some, None, refl, sym, ap, ◌∙◌, subst, arith}
use Rattle.std.specs.Option.{option_to_list}
use Rattle.std.proofs.lemmas.Bool.Decides.{eqb_tells}
use Rattle.std.proofs.lemmas.List.{append-nil, map-append, get_or_append_left, get_or-set_same, get_or-set_other, get_or_at, length-append, length-set}
use Rattle.rc_model.specs.Run.Calls.{Launch}
use Rattle.rc_model.specs.Run.State as model
use Rattle.rc_model.specs.Syntax.Tree.{Node, cmd}
use Rattle.rc_model.specs.Handed.Proper.{IsProperTree, IsProper}
use Rattle.rc_model.specs.Family.Accounts.{put}
use Rattle.rc_model.specs.Family.Family as family
use Rattle.rc_model.specs.Family.Family.{recorded, shell_started, child_process, with_trace, with_child, stepped, read_launch, first}
use Rattle.rc_model.specs.Family.Steps.{IsMadeBy}
use Rattle.law_family.proofs.Grow.{family_on, sound_on}
use Rattle.law_family.proofs.Members.{one_at_a_time}
use Rattle.law_traces.proofs.Keep.{put_self, put_other}
use Rattle.law_image.proofs.Proper.{proper_new}
use Rattle.rc_scope.proofs.ProperStates.{is_proper}
use Rattle.rc_scope.specs.States.{state_of}
use Rattle.rc_tree.specs.View.{cmd_tree}
use Rattle.rc_world.specs.Views.{call_of, answer_of}
use Rattle.rc_world.specs.declared.event.Call.{Call}
use Rattle.rc_world.specs.declared.event.Answer.{Answer}
use Rattle.rc_shell.specs.Changes.{Changes, IsChanged}
use Rattle.rc_shell.specs.Families.{Holds, held, made_of, first_tree, first_state}
use Rattle.rc_shell.specs.Held.{Held}
use Rattle.rc_shell.specs.Made.{Made, Steps, answering, first_process, processes, with_step}
use Rattle.rc_shell.specs.Standings.{StandsFor, Stand, StartsAs, step_of}
use Rattle.rc_shell.specs.declared.family.process_steps.Change.{Change}
use Rattle.rc_shell.specs.declared.family.process_steps.Process.{Process}
use Rattle.rc_shell.specs.declared.family.process_steps.FamilyStep.{FamilyStep}
use Rattle.rc_shell.proofs.Advances.{in_time, some_process, stands_for_child}
use Rattle.rc_shell.proofs.Launches.{empty_proper}

-- ** the first process
stands_alone : (limit : ℕ) (p : Process) (t : Node cmd) (s : model.State) → StandsFor limit p (first_process t s) → Stand limit (p ∷ []) (first read_launch t s)
stands_alone limit p t s h = record {
  count = refl;
  each = λ i d l.
      let z : 0 ≡ i = omega (arith, l) in
      let e : p ≡ get_or (p ∷ []) i d = ap (λ j. get_or (p ∷ []) j d) z in
      subst (λ x. StandsFor limit x ((first read_launch t s).at i)) e (subst (λ j. StandsFor limit p ((first read_launch t s).at j)) z h);
}

holds_first : (limit : ℕ) (p : Process) (t : Node cmd) (s : model.State) → StandsFor limit p (first_process t s) → Holds (held limit (p ∷ []) [])
holds_first limit p t s h =
    let k : StandsFor limit p (first_process (cmd_tree p.cmd) (state_of p.state)) =
    subst (λ u. StandsFor limit p (first_process (cmd_tree p.cmd) u)) (sym h.state) (subst (λ u. StandsFor limit p (first_process u s)) (sym h.tree) h) in
    record {
      made = record { begun = λ j l. in_time limit (first_process (cmd_tree p.cmd) (state_of p.state)) p.pending k.at; made = tt };
      stand = stands_alone limit p (cmd_tree p.cmd) (state_of p.state) k;
    }

pub holds_alone : (limit : ℕ) (p : Process) (t : Node cmd) (s : model.State) (ps : List Process) (es : List FamilyStep) → ps ≡ p ∷ [] → es ≡ [] → StandsFor limit p (first_process t s) → Holds (held limit ps es)
holds_alone limit p t s ps es a b h = subst (λ x. Holds (held limit ps x)) (sym b) (subst (λ x. Holds (held limit x [])) (sym a) (holds_first limit p t s h))

-- ** one step more
module _ (limit : ℕ) (ps : List Process) (f : family.Family) (k : ℕ) (p : Process) (q : family.Process) (l : k < length ps) (stand : Stand limit ps f) (h : StandsFor limit p q) where
  abbrev answered : family.Family
  answered = record f { at = put f.at k q }

  stands_set : Stand limit (set ps k p) answered
  stands_set = record {
    count = length-set ps k p ∙ stand.count;
    each = λ i d m. let inside : i < length ps = omega (arith, m, length-set ps k p) in
        elim (eqb_tells k i) [
          | inl y ↦
              let e : get_or (set ps k p) i d ≡ p = ap (λ j. get_or (set ps k p) j d) (sym y.1) ∙ get_or-set_same ps k p d l in
              let g : put f.at k q i ≡ q = ap (put f.at k q) (sym y.1) ∙ put_self f.at k q in
              subst (λ x. StandsFor limit x (put f.at k q i)) (sym e) (subst (StandsFor limit p) (sym g) h)
          | inr y ↦
              let e : get_or (set ps k p) i d ≡ get_or ps i d = get_or-set_other ps k i p d (λ z. y.1 (sym z)) in
              let g : put f.at k q i ≡ f.at i = put_other f.at k q i y.1 in
              subst (λ x. StandsFor limit x (put f.at k q i)) (sym e) (subst (StandsFor limit (get_or ps i d)) (sym g) (stand.each i d inside))
        ];
  }

stands_child : (limit : ℕ) (ps : List Process) (f : family.Family) (k : ℕ) (q : family.Process) (o : Option (Launch × ℕ)) (child : Option Process) → Stand limit ps f → StartsAs limit o child
    → Stand limit (ps ++ option_to_list child) (with_child read_launch f k q o)
stands_child limit ps f k q None child s z = subst (λ c. Stand limit (ps ++ option_to_list c) f) (sym z) (subst (λ x. Stand limit x f) (sym (append-nil ps)) s)
stands_child limit ps f k q (Some (l, n)) None s z = absurd z
stands_child limit ps f k q (Some (l, n)) (Some c) s z = record {
  count = let e = s.count in omega (arith, e, length-append ps (c ∷ []));
  each = λ i d m. elim (eqb_tells f.count i) [
    | inl y ↦
        let e : get_or (ps ++ c ∷ []) i d ≡ c = get_or_at ps c [] d i (s.count ∙ y.1) in
        let g : put f.at f.count (child_process read_launch k q l n) i ≡ child_process read_launch k q l n = ap (put f.at f.count (child_process read_launch k q l n)) (sym y.1) ∙ put_self f.at f.count (child_process read_launch k q l n) in
        subst (λ x. StandsFor limit x (put f.at f.count (child_process read_launch k q l n) i)) (sym e) (subst (StandsFor limit c) (sym g) (stands_for_child limit k q l n c z))
    | inr y ↦
        let inside : i < length ps = let e = s.count in omega (arith, m, e, y.1, length-append ps (c ∷ [])) in
        let e : get_or (ps ++ c ∷ []) i d ≡ get_or ps i d = get_or_append_left ps (c ∷ []) d i inside in
        let g : put f.at f.count (child_process read_launch k q l n) i ≡ f.at i = put_other f.at f.count (child_process read_launch k q l n) i y.1 in
        subst (λ x. StandsFor limit x (put f.at f.count (child_process read_launch k q l n) i)) (sym e) (subst (StandsFor limit (get_or ps i d)) (sym g) (s.each i d inside))
  ];
}

-- what the first process was handed stays
tree_stays : (ps : List Process) (k : ℕ) (d : Process) (o : Option Call) (more : List Process) → k < length ps → first_tree (set ps k (record (get_or ps k d) { pending = o }) ++ more) ≡ first_tree ps
tree_stays [] k d o more l = absurd (omega (arith, l))
tree_stays (p ∷ ps) zero d o more l = refl
tree_stays (p ∷ ps) (suc k) d o more l = refl

state_stays : (ps : List Process) (k : ℕ) (d : Process) (o : Option Call) (more : List Process) → k < length ps → first_state (set ps k (record (get_or ps k d) { pending = o }) ++ more) ≡ first_state ps
state_stays [] k d o more l = absurd (omega (arith, l))
state_stays (p ∷ ps) zero d o more l = refl
state_stays (p ∷ ps) (suc k) d o more l = refl

abbrev made : ℕ → Node cmd → model.State → List family.FamilyEvent → Made
made limit t s es = record { limit = limit; tree = t; state = s; steps = es }

module _ (h : Held) (holds : Holds h) (k : ℕ) (answer : Answer) (change : Change) (c : Changes h k (answer_of answer) change) (ps : List Process) (es : List FamilyStep)
    (changed : IsChanged h.processes k change.pending change.child ps) (more : es ≡ h.steps ++ record { process = k; call = change.kept; answer = answer } ∷ []) where
  d : Process
  d = some_process h.processes k c.in_family

  steps_are : map step_of es ≡ map step_of h.steps ++ answering k (call_of change.kept) (answer_of answer) ∷ []
  steps_are =
      ap (map step_of) more ∙ map-append step_of h.steps (record { process = k; call = change.kept; answer = answer } ∷ [])

  pub made_is : made_of (held h.limit ps es) ≡ with_step (made_of h) (answering k (call_of change.kept) (answer_of answer))
  made_is =
      let t = ap first_tree (changed d) ∙ tree_stays h.processes k d change.pending (option_to_list change.child) c.in_family in
      let s = ap first_state (changed d) ∙ state_stays h.processes k d change.pending (option_to_list change.child) c.in_family in
      ap (λ z. made h.limit z (first_state ps) (map step_of es)) t
      ∙ (ap (λ z. made h.limit (first_tree h.processes) z (map step_of es)) s
      ∙ ap (made h.limit (first_tree h.processes) (first_state h.processes)) steps_are)

  pub family_is : processes (made_of (held h.limit ps es)) ≡ stepped read_launch (processes (made_of h)) (answering k (call_of change.kept) (answer_of answer))
  family_is = ap processes made_is ∙ family_on read_launch (made_of h).steps (first read_launch (made_of h).tree (made_of h).state) (answering k (call_of change.kept) (answer_of answer))

  now_stands : StandsFor h.limit (record (get_or h.processes k d) { pending = change.pending }) (recorded ((processes (made_of h)).at k) (call_of change.kept) (answer_of answer))
  now_stands = let w = holds.stand.each k d c.in_family in record { tree = w.tree; state = w.state; proper = w.proper; at = c.stands }

  pub holds_on : Holds (held h.limit ps es)
  holds_on =
      let set_one = stands_set h.limit h.processes (processes (made_of h)) k (record (get_or h.processes k d) { pending = change.pending })
      (recorded ((processes (made_of h)).at k) (call_of change.kept) (answer_of answer)) c.in_family holds.stand now_stands in
      let all = stands_child h.limit (set h.processes k (record (get_or h.processes k d) { pending = change.pending }))
      (with_trace (processes (made_of h)) (answering k (call_of change.kept) (answer_of answer))) k ((processes (made_of h)).at k) (shell_started (call_of change.kept) (answer_of answer)) change.child set_one c.starts in
      record {
        made = subst (λ m. IsMadeBy read_launch h.limit m.tree m.state m.steps) (sym made_is)
            (sound_on read_launch h.limit (made_of h).tree (made_of h).state (made_of h).steps (answering k (call_of change.kept) (answer_of answer)) holds.made c.made);
        stand = subst (λ z. Stand h.limit z (processes (made_of (held h.limit ps es)))) (sym (changed d)) (subst (Stand h.limit (set h.processes k (record (get_or h.processes k d) { pending = change.pending }) ++ option_to_list change.child)) (sym family_is) all);
      }

  pub steps_so : Steps (made_of h) (made_of (held h.limit ps es)) k (answer_of answer) (call_of change.answered)
  steps_so = subst (Steps (made_of h) (made_of (held h.limit ps es)) k (answer_of answer)) (sym c.same) (record {
    made = c.made;
    is = made_is;
    family_is = family_is;
    one_at_a_time = one_at_a_time read_launch (processes (made_of h)) (answering k (call_of change.kept) (answer_of answer)) c.made.in_family;
  })

-- ** what the first process was handed is a tree that a shell holds, and a proper state

tree_proper : (limit : ℕ) (ps : List Process) (f : family.Family) → ((i : ℕ) (p : Process) → i < length ps → StandsFor limit (get_or ps i p) (f.at i)) → IsProperTree (first_tree ps)
tree_proper limit [] f each = empty_proper
tree_proper limit (p ∷ ps) f each = let w = each 0 p (omega arith) in subst IsProperTree (sym w.tree) w.proper

pub first_proper : (h : Held) → Holds h → IsProperTree (first_tree h.processes)
first_proper h holds = tree_proper h.limit h.processes (processes (made_of h)) holds.stand.each

pub state_proper : (ps : List Process) → IsProper (first_state ps)
state_proper [] = proper_new
state_proper (p ∷ ps) = is_proper p.state
