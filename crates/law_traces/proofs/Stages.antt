-- What pipelines, backquotes and other children keep.
use Rattle.std.proofs.Common.{◌≡◌, ◌⊎◌, inl, inr, ℕ, zero, suc, ◌+◌, ◌≤◌, ◌<◌, List, [], ◌∷◌, ◌++◌, Option, Some, None, refl, sym, ap, ◌∙◌, subst, arith}
use Rattle.std.specs.Prelude.{codes, Bool, true, false, if◌then◌else◌}
use Rattle.rc_model.specs.Run.Calls.{to_file, with_slot, Launch, make_pipe, close, start, wait, as_pair, as_child, as_ending}
use Rattle.rc_model.specs.declared.call.Slot.{Slot}
use Rattle.rc_model.specs.declared.call.Slot.TheVariants.{Own, To}
use Rattle.rc_model.specs.declared.call.Slots.{Slots}
use Rattle.rc_model.specs.Syntax.Tree.{Node, Many, cmd, stage, none, more, Stage}
use Rattle.rc_model.specs.Run.State.{State, with_status}
use Rattle.rc_model.specs.Run.Shell.{Shell, ◌>>◌, under, leaves, pure, change}
use Rattle.rc_model.specs.Handed.Image.{is_fit, shell_launch}
use Rattle.rc_model.specs.Run.Acts.{set_status, ending_status, close_end, wait_each, Started, Child, NoChild, as_started, ask_start, start_shell}
use Rattle.rc_model.specs.Run.Acts.{LaunchedStages, Launched, NotLaunched, StartedStages, Running, Refused, stages_status, no_stages, next_stage}
use Rattle.rc_model.specs.Run.Acts.{stage_with, stages_from, launch_stages, settled, start_stages, end_stages}
use Rattle.rc_model.specs.Handed.Handed.{IsHanded, HandsOver}
use Rattle.rc_model.specs.Family.Accounts.{read_end, write_end, Due, made, used, passed, Account, one, with_call, add_pair, add_owed, past, NewPair, NewChild, InSlots, InTurn}
use Rattle.law_traces.proofs.Keep.{Keeps, one_self, Held, held, of_line, Kid, kid_of, held_counts, child_counts, InLine, KnownOf, AllKnown, AllBelow}
use Rattle.law_traces.proofs.Keep.{KidsBelow, AllOlder, below_place, kids_below_place, older_place, NotSlot, Neat, Rest, calm_turn}
use Rattle.law_traces.proofs.Steps.{rest_on, may_call, may_close, rest_close, neat_pair, neat_used, neat_kid, may_close_due, rest_unused, neat_passed}
use Rattle.law_traces.proofs.Steps.{rest_passed, rest_join, rest_wait, may_wait_line, rest_apart, older_from}
use Rattle.law_traces.proofs.Does.{Ends, keeps_bind, CoversSlot, Covers, covers_more, covers_all, holds_slots, neat_state, rekid, child_counts-append, known_append, known_front, known_back}

-- children with the pipe that each was started for, and its pipeline
abbrev pub numbers : List (ℕ × ℕ × ℕ) → List ℕ
numbers [] = []
numbers (k ∷ ks) = k.0 ∷ numbers ks

abbrev pub kids : List (ℕ × ℕ × ℕ) → List Kid
kids [] = []
kids (k ∷ ks) = kid_of k.0 (of_line k.1 k.2) ∷ kids ks

-- none of an older pipeline
abbrev pub AllFrom : ℕ → List (ℕ × ℕ × ℕ) → Type 0
AllFrom g [] = Unit {0}
AllFrom g (k ∷ ks) = (g ≤ k.2) × AllFrom g ks

pub keeps_wait_each : (g : ℕ) (F : List Held) (O : List Kid) (ks : List (ℕ × ℕ × ℕ)) (a : Account) (s : State) → AllOlder g F → AllFrom g ks
    → Rest F (kids ks ++ O) a s → Keeps a (wait_each (numbers ks) s) (Ends F O (λ ts. Rest F O))
keeps_wait_each g F O [] a s old from n = n
keeps_wait_each g F O (k ∷ ks) a s old from n = (
  may_wait_line (older_from g k.2 F from.0 old) n,
  λ x f.
      keeps_bind F O {Q = λ ts. Rest F O} (λ ts. Rest F O) (past (with_call (wait k.0) a)) (wait_each (numbers ks) s)
      (λ ts. pure (ending_status (as_ending x) ∷ ts)) (keeps_wait_each g F O ks (past (with_call (wait k.0) a)) s old from.1 (rest_wait n))
      (λ ts b t m. m),
)

-- all of one pipeline
abbrev pub AllIs : ℕ → List (ℕ × ℕ × ℕ) → Type 0
AllIs g [] = Unit {0}
AllIs g (k ∷ ks) = (k.2 ≡ g) × AllIs g ks

append_is : (g : ℕ) (ks : List (ℕ × ℕ × ℕ)) (k p : ℕ) → AllIs g ks → AllIs g (ks ++ (k, p, g) ∷ [])
append_is g [] k p h = (refl, tt)
append_is g (x ∷ ks) k p h = (h.0, append_is g ks k p h.1)

-- no stage's output is its input
abbrev pub Outputs : Many stage → Type 0
Outputs none = Unit {0}
Outputs (more (Stage c out) rest) = (out ≡ 0 → ⊥) × Outputs rest

-- a start for a pipe that was just made, refused or not made at all, leaves its write end to be closed
abbrev pub Spent : ℕ → ℕ → Slot → Due → Type 0
Spent p w i d = (d ≡ made p w) ⊎ (d ≡ used p w i)

pub spent_turn : (p w : ℕ) (i : Slot) (d : Due) → Spent p w i d → InTurn d (close w)
spent_turn p w i d (inl e) = subst (λ d. InTurn d (close w)) (sym e) refl
spent_turn p w i d (inr e) = subst (λ d. InTurn d (close w)) (sym e) refl

pub rest_spent : {p w g : ℕ} {i : Slot} {e : Held} {fs : List Held} {os : List Kid} {a : Account} {s : State} → NotSlot i e.number
    → Neat (Spent p w i) (held w (write_end p) g ∷ e ∷ fs) os a s → Rest (e ∷ fs) os (past (with_call (close w) a)) s
rest_spent {p = p} {w = w} {g = g} {i = i} {e = e} {fs = fs} {os = os} {a = a} {s = s} t n = elim n.due [
  | inl d ↦ rest_unused (record { due = d; files = n.files; owed = n.owed; all_held = n.all_held; all_known = n.all_known; background = n.background })
  | inr d ↦ rest_passed t (neat_passed (record { due = d; files = n.files; owed = n.owed; all_held = n.all_held; all_known = n.all_known; background = n.background }))
]

abbrev pub BegunFor : ℕ → ℕ → ℕ → Slot → List Held → List Kid → Started → Account → State → Type 0
BegunFor p w g i fs os (Child k) a s = Neat (λ d. d ≡ used p w i) fs (kid_of k (of_line p g) ∷ os) a s
BegunFor p w g i fs os (NoChild why) a s = Neat (Spent p w i) fs os a s

-- what a shell is handed that is started where its launch fits
pub hands : (slots : Slots) (c : Node cmd) (s : State) → is_fit (shell_launch slots c s) ≡ true → IsHanded (shell_launch slots c s)
hands slots c s e = record { tree = c; state = s; is = refl; fits = e }

-- a shell is started for a pipe, where its launch fits
pub keeps_start_made : (F : List Held) (O : List Kid) {p w g : ℕ} {fs : List Held} {os : List Kid} {a : Account} {s : State} (l : Launch) (c : Bool)
    → (c ≡ true → HandsOver (start l)) → Covers fs l.slots → InSlots w l.slots → InLine a p g
    → Neat (λ d. d ≡ made p w) fs os a s → Keeps a ((if c then ask_start l else pure (NoChild (codes "too large"))) s) (Ends F O (BegunFor p w g l.slots.input fs os))
keeps_start_made F O l false h c t i n = record { due = inl n.due; files = n.files; owed = n.owed; all_held = n.all_held; all_known = n.all_known; background = n.background }
keeps_start_made F O {p = p} {w = w} {g = g} {fs = fs} {os = os} {a = a} {s = s} l true h c t i n =
    (record { names = holds_slots l.slots c n; in_turn = subst (λ d. InTurn d (start l)) (sym n.due) t; apart = tt; handed = h refl }, λ x f. next (as_child x) f)
  where
    next : (o : Option ℕ) → NewChild o a → BegunFor p w g l.slots.input fs os (as_started o) (past (add_owed o (with_call (start l) a))) s
    next (Some k) f = neat_kid p w g l k f i n
    next None f = let m = neat_used p w l n in record { due = inr m.due; files = m.files; owed = m.owed; all_held = m.all_held; all_known = m.all_known; background = m.background }

-- where a read end stands for no descriptor so far
pub not_input : {F : List Held} {O : List Kid} {a : Account} {s : State} (r : ℕ) (i : Slot) → CoversSlot F i → a.files r ≡ 0 → Rest F O a s → NotSlot i r
not_input r (Own n) c f k = tt
not_input {a = a} r (To h) c f k = λ e. let g = subst (λ x. a.files x ≡ 0) (sym e) f in absurd (omega (arith, k.files h.0))

pub in_line_of : (p l : ℕ) {P : Due → Type 0} {fs : List Held} {os : List Kid} {a : Account} {s : State} {w r : ℕ} → Neat P (held w (write_end p) l ∷ held r (read_end p) l ∷ fs) os a s → InLine a p l
in_line_of p l n = n.all_held.1.0.in_line

pub used_turn : (p w : ℕ) (i : Slot) (d : Due) → d ≡ used p w i → InTurn d (close w)
used_turn p w i d e = subst (λ d. InTurn d (close w)) (sym e) refl

-- P stands for what is known of the stages
module _ (P : Type 0) where
  -- how far a pipeline has been started
  pub record GoingOn (F : List Held) (O : List Kid) (r : ℕ) (cs : List ℕ) (a : Account) (s : State) : Type 0 where
    pub pipe : ℕ
    pub pipeline : ℕ
    -- its first pipeline
    pub base : ℕ
    pub pairs : List (ℕ × ℕ × ℕ)
    pub is : cs ≡ numbers pairs
    pub older : AllOlder base F
    pub from : AllFrom base pairs
    pub at : base ≤ pipeline
    pub one : P → AllIs pipeline pairs
    pub rest : Rest (held r (read_end pipe) pipeline ∷ F) (kids pairs ++ O) a s

  abbrev pub Going : List Held → List Kid → Option ℕ → List ℕ → Account → State → Type 0
  Going F O None cs a s = (cs ≡ []) × Rest F O a s
  Going F O (Some r) cs a s = GoingOn F O r cs a s

  -- how far a pipeline was started that has ended: its children are still to be waited for
  pub record Waiting (F : List Held) (O : List Kid) (cs : List ℕ) (a : Account) (s : State) : Type 0 where
    pub base : ℕ
    pub pairs : List (ℕ × ℕ × ℕ)
    pub is : cs ≡ numbers pairs
    pub older : AllOlder base F
    pub from : AllFrom base pairs
    pub rest : Rest F (kids pairs ++ O) a s

  abbrev pub LaunchedSo : List Held → List Kid → LaunchedStages → Account → State → Type 0
  LaunchedSo F O (Launched h cs) a s = Going F O h cs a s
  LaunchedSo F O (NotLaunched cs why) a s = Waiting F O cs a s

  abbrev pub StartedSo : List Held → List Kid → StartedStages → Account → State → Type 0
  StartedSo F O (Running h cs) a s = Going F O h cs a s
  StartedSo F O Refused a s = Rest F O a s

  keeps_waits : (g : ℕ) (F : List Held) (O : List Kid) (ks : List (ℕ × ℕ × ℕ)) (cs : List ℕ) (a : Account) (s : State) → cs ≡ numbers ks
      → AllOlder g F → AllFrom g ks → Rest F (kids ks ++ O) a s → Keeps a (wait_each cs s) (Ends F O (λ ts. Rest F O))
  keeps_waits g F O ks cs a s e old from n = subst (λ l. Keeps a (wait_each l s) (Ends F O (λ ts. Rest F O))) (sym e) (keeps_wait_each g F O ks a s old from n)

  -- the read end that may be held is closed, and the children are waited for
  keeps_all_waits : {B : Type 0} (F : List Held) (O : List Kid) (R : B → Account → State → Type 0) (h : Option ℕ) (cs : List ℕ) (f : List (List ℕ) → Shell B) (a : Account) (s : State)
      → Going F O h cs a s
      → ((ts : List (List ℕ)) (b : Account) (t : State) → Rest F O b t → Keeps b (f ts t) (Ends F O R))
      → Keeps a (under (close_end h s) (λ x. λ t. under (wait_each cs t) f leaves) leaves) (Ends F O R)
  keeps_all_waits F O R None cs f a s g k = subst (λ l. Keeps a (under (wait_each l s) f leaves) (Ends F O R)) (sym g.0) (k [] a s g.1)
  keeps_all_waits F O R (Some h) cs f a s g k = (
    may_close g.rest,
    λ x e.
        keeps_bind F O {Q = λ ts. Rest F O} R (past (with_call (close h) a)) (wait_each cs s) f
        (keeps_waits g.base F O g.pairs cs (past (with_call (close h) a)) s g.is g.older g.from (rest_close g.rest)) k,
  )

  keeps_no_stages : (F : List Held) (O : List Kid) (h : Option ℕ) (cs : List ℕ) (why : List ℕ) (a : Account) (s : State) → Going F O h cs a s
      → Keeps a (no_stages h cs why s) (Ends F O (LaunchedSo F O))
  keeps_no_stages F O None cs why a s g = record { base = a.place; pairs = []; is = g.0; older = older_place a F g.1.all_held; from = tt; rest = g.1 }
  keeps_no_stages F O (Some h) cs why a s g = (
    may_close g.rest,
    λ x e. record { base = g.base; pairs = g.pairs; is = g.is; older = g.older; from = g.from; rest = rest_close g.rest },
  )

  pub keeps_end : (F : List Held) (O : List Kid) (h : Option ℕ) (cs : List ℕ) (a : Account) (s : State) → Going F O h cs a s → Keeps a (end_stages h cs s) (Ends F O (λ x. Rest F O))
  keeps_end F O h cs a s g =
      keeps_all_waits F O (λ x. Rest F O) h cs (λ ts. change (λ s. with_status s (stages_status (ts ++ s.status ∷ [])))) a s g
      (λ ts b t n. neat_state (with_status t (stages_status (ts ++ t.status ∷ []))) refl n)

  -- the descriptors of a stage
  stage_in : (w : ℕ) (slots : Slots) (out : ℕ) → InSlots w (with_slot slots out (to_file w))
  stage_in w slots zero = inl (inl refl)
  stage_in w slots (suc zero) = inl (inr refl)
  stage_in w slots (suc (suc n)) = inr refl

  stage_input : (slots : Slots) (out r w : ℕ) → (w ≡ r → ⊥) → NotSlot slots.input r → NotSlot (with_slot slots out (to_file w)).input r
  stage_input slots zero r w ne t = ne
  stage_input slots (suc zero) r w ne t = t
  stage_input slots (suc (suc n)) r w ne t = t

  stage_from : (slots : Slots) (out h w : ℕ) → slots.input ≡ to_file h → (w ≡ h → ⊥) → (P → out ≡ 0 → ⊥)
      → ((with_slot slots out (to_file w)).input ≡ to_file h) ⊎ (NotSlot (with_slot slots out (to_file w)).input h × (P → ⊥))
  stage_from slots zero h w e ne o = inr (ne, λ u. o u refl)
  stage_from slots (suc zero) h w e ne o = inl e
  stage_from slots (suc (suc n)) h w e ne o = inl e

  stage_covers : (F : List Held) (slots : Slots) (out w : ℕ) → 1 ≤ held_counts F w → Covers F slots → Covers F (with_slot slots out (to_file w))
  stage_covers F slots zero w h c = record { input = h; output = c.output; errors = c.errors }
  stage_covers F slots (suc zero) w h c = record { input = c.input; output = h; errors = c.errors }
  stage_covers F slots (suc (suc n)) w h c = record { input = c.input; output = c.output; errors = h }

  -- what goes on from stages that run
  abbrev Runs : List Held → List Kid → (Option ℕ → List ℕ → Shell LaunchedStages) → Type 0
  Runs F O go_on = (h : Option ℕ) (cs : List ℕ) (a : Account) (s : State) → Going F O h cs a s → Keeps a (go_on h cs s) (Ends F O (LaunchedSo F O))

  -- the first stage, where its start came out so
  keeps_first_begun : (F : List Held) (O : List Kid) (go_on : Option ℕ → List ℕ → Shell LaunchedStages) → Runs F O go_on
      → (p r w : ℕ) (i : Slot) (b : Started) (a : Account) (s : State) → AllOlder p F → NotSlot i r
      → BegunFor p w p i (held w (write_end p) p ∷ held r (read_end p) p ∷ F) O b a s → Keeps a (next_stage go_on None [] r w b s) (Ends F O (LaunchedSo F O))
  keeps_first_begun F O go_on run p r w i (Child k) a s old ni n = (
    may_close_due (used_turn p w i) n,
    λ x f.
        run (Some r) (k ∷ []) (past (with_call (close w) a)) s
        (record {
          pipe = p;
          pipeline = p;
          base = p;
          pairs = (k, p, p) ∷ [];
          is = refl;
          older = old;
          from = (omega arith, tt);
          at = omega arith;
          one = λ u. (refl, tt);
          rest = rest_passed ni (neat_passed n);
        }),
  )
  keeps_first_begun F O go_on run p r w i (NoChild why) a s old ni n = (
    may_close_due (spent_turn p w i) n,
    λ x f.
        let m = rest_spent ni n in
        (may_close m, λ y g. keeps_no_stages F O None [] why (past (with_call (close r) (past (with_call (close w) a)))) s (refl, rest_close m)),
  )

  keeps_first : (F : List Held) (O : List Kid) (go_on : Option ℕ → List ℕ → Shell LaunchedStages) → Runs F O go_on
      → (slots : Slots) (c : Node cmd) (out : ℕ) (a : Account) (s : State) (o : Option (ℕ × ℕ)) → Covers F slots → NewPair o a → Rest F O a s
      → Keeps (past (add_pair o (with_call make_pipe a))) (stage_with go_on slots c out None [] o s) (Ends F O (LaunchedSo F O))
  keeps_first F O go_on run slots c out a s None cov f n = keeps_no_stages F O None [] (codes "cannot pipe") (past (with_call make_pipe a)) s (refl, rest_on make_pipe n)
  keeps_first F O go_on run slots c out a s (Some (r, w)) cov f n =
      let p = a.place in
      let m = neat_pair r w f.0 f.1 f.2 n in
      let top : List Held = held w (write_end p) p ∷ held r (read_end p) p ∷ F in
      keeps_bind F O {Q = BegunFor p w p (with_slot slots out (to_file w)).input (held w (write_end a.place) a.place ∷ held r (read_end a.place) a.place ∷ F) O}
      (LaunchedSo F O) (past (add_pair (Some (r, w)) (with_call make_pipe a)))
      (start_shell (with_slot slots out (to_file w)) c s) (next_stage go_on None [] r w)
      (keeps_start_made F O (shell_launch (with_slot slots out (to_file w)) c s) (is_fit (shell_launch (with_slot slots out (to_file w)) c s))
      (hands (with_slot slots out (to_file w)) c s)
      (stage_covers _ slots out w (omega (arith, one_self w)) (covers_all (held w (write_end p) p) (covers_all (held r (read_end p) p) cov)))
      (stage_in w slots out) (in_line_of p p m) m)
      (λ b a2 s2 q. keeps_first_begun F O go_on run p r w (with_slot slots out (to_file w)).input b a2 s2 (older_place a F n.all_held)
      (stage_input slots out r w (λ e. f.2 (sym e)) (not_input r slots.input cov.input f.0 n)) q)

  -- a later stage
  append_numbers : (ks : List (ℕ × ℕ × ℕ)) (k p l : ℕ) → numbers ks ++ k ∷ [] ≡ numbers (ks ++ (k, p, l) ∷ [])
  append_numbers [] k p l = refl
  append_numbers (x ∷ ks) k p l = ap (λ t. x.0 ∷ t) (append_numbers ks k p l)

  append_kids : (ks : List (ℕ × ℕ × ℕ)) (k p l : ℕ) (n : ℕ) → child_counts (kids (ks ++ (k, p, l) ∷ [])) n ≡ child_counts (kids ks) n + one k n
  append_kids [] k p l n = omega arith
  append_kids (x ∷ ks) k p l n = omega (arith, append_kids ks k p l n)

  append_known : (a : Account) (ks : List (ℕ × ℕ × ℕ)) (k p l : ℕ) → AllKnown a (kids ks) → KnownOf a k (of_line p l) → AllKnown a (kids (ks ++ (k, p, l) ∷ []))
  append_known a [] k p l h e = (e, tt)
  append_known a (x ∷ ks) k p l h e = (h.0, append_known a ks k p l h.1 e)

  append_from : (g : ℕ) (ks : List (ℕ × ℕ × ℕ)) (k p l : ℕ) → AllFrom g ks → g ≤ l → AllFrom g (ks ++ (k, p, l) ∷ [])
  append_from g [] k p l h e = (e, tt)
  append_from g (x ∷ ks) k p l h e = (h.0, append_from g ks k p l h.1 e)

  newest_last : (O : List Kid) {fs : List Held} {a : Account} {s : State} (ks : List (ℕ × ℕ × ℕ)) (k p l : ℕ)
      → Rest fs (kid_of k (of_line p l) ∷ (kids ks ++ O)) a s → Rest fs (kids (ks ++ (k, p, l) ∷ []) ++ O) a s
  newest_last O {a = a} ks k p l n = rekid (kids (ks ++ (k, p, l) ∷ []) ++ O)
      (λ i. omega (arith, child_counts-append (kids ks) O i, child_counts-append (kids (ks ++ (k, p, l) ∷ [])) O i, append_kids ks k p l i))
      (known_append a (kids (ks ++ (k, p, l) ∷ [])) O (append_known a ks k p l (known_front a (kids ks) O n.all_known.1) n.all_known.0) (known_back a (kids ks) O n.all_known.1))
      n

  keeps_later_begun : (F : List Held) (O : List Kid) (go_on : Option ℕ → List ℕ → Shell LaunchedStages) → Runs F O go_on
      → (p r w q g base h : ℕ) (i : Slot) (ks : List (ℕ × ℕ × ℕ)) (cs : List ℕ) (b : Started) (a : Account) (s : State)
      → cs ≡ numbers ks → AllOlder base F → AllFrom base ks → base ≤ g → (P → AllIs g ks) → base ≤ p → NotSlot i r → (i ≡ to_file h) ⊎
      (NotSlot i h × (P → ⊥)) → q < p → AllBelow p F → KidsBelow p (kids ks ++ O)
      → BegunFor p w p i (held w (write_end p) p ∷ held r (read_end p) p ∷ held h (read_end q) g ∷ F) (kids ks ++ O) b a s → Keeps a (next_stage go_on (Some h) cs r w b s) (Ends F O (LaunchedSo F O))
  keeps_later_begun F O go_on run p r w q g base h i ks cs (Child k) a s is old from at one bp ni side lt below kb n = (
    may_close_due (used_turn p w i) n,
    λ x f.
        let m = neat_passed n in (
          record { names = omega (arith, m.files h, one_self h); in_turn = calm_turn (held r (read_end p) p ∷ held h (read_end q) g ∷ F) _ (close h) (rest_passed ni m).due; apart = tt; handed = tt },
          λ y f2. goes_on (past (with_call (close w) a)) side m,
        ),
  )
    where
      goes_on : (b : Account) → (i ≡ to_file h) ⊎ (NotSlot i h × (P → ⊥)) → Neat (λ d. d ≡ passed p i) (held r (read_end p) p ∷ held h (read_end q) g ∷ F) (kid_of k (of_line p p) ∷ (kids ks ++ O)) b s
          → Keeps (past (with_call (close h) b)) (go_on (Some r) (cs ++ k ∷ []) s) (Ends F O (LaunchedSo F O))
      goes_on b (inl e) m = run (Some r) (cs ++ k ∷ []) (past (with_call (close h) b)) s (record {
        pipe = p;
        pipeline = g;
        base = base;
        pairs = ks ++ (k, p, g) ∷ [];
        is = ap (λ l. l ++ k ∷ []) is ∙ append_numbers ks k p g;
        older = old;
        from = append_from base ks k p g from at;
        at = at;
        one = λ u. append_is g ks k p (one u);
        rest =
            newest_last O ks k p g
            (rest_join lt below kb (subst (λ j. Neat (λ d. d ≡ passed p j) (held r (read_end p) p ∷ held h (read_end q) g ∷ F) (kid_of k (of_line p p) ∷ (kids ks ++ O)) b s) e m));
      })
      goes_on b (inr t) m = run (Some r) (cs ++ k ∷ []) (past (with_call (close h) b)) s (record {
        pipe = p;
        pipeline = p;
        base = base;
        pairs = ks ++ (k, p, p) ∷ [];
        is = ap (λ l. l ++ k ∷ []) is ∙ append_numbers ks k p p;
        older = old;
        from = append_from base ks k p p from bp;
        at = bp;
        one = λ u. absurd (t.1 u);
        rest = newest_last O ks k p p (rest_apart t.0 m);
      })
  keeps_later_begun F O go_on run p r w q g base h i ks cs (NoChild why) a s is old from at one bp ni side lt below kb n = (
    may_close_due (spent_turn p w i) n,
    λ x f.
        let m = rest_spent ni n in (
          may_close m,
          λ y f2. keeps_no_stages F O (Some h) cs why (past (with_call (close r) (past (with_call (close w) a)))) s
              (record { pipe = q; pipeline = g; base = base; pairs = ks; is = is; older = old; from = from; at = at; one = one; rest = rest_close m }),
        ),
  )

  keeps_later : (F : List Held) (O : List Kid) (go_on : Option ℕ → List ℕ → Shell LaunchedStages) → Runs F O go_on
      → (slots : Slots) (c : Node cmd) (out h : ℕ) → (P → out ≡ 0 → ⊥) → (cs : List ℕ) (a : Account) (s : State) (o : Option (ℕ × ℕ)) → Covers F slots
      → NewPair o a → GoingOn F O h cs a s
      → Keeps (past (add_pair o (with_call make_pipe a))) (stage_with go_on slots c out (Some h) cs o s) (Ends F O (LaunchedSo F O))
  keeps_later F O go_on run slots c out h out_is cs a s None cov f g =
      keeps_no_stages F O (Some h) cs (codes "cannot pipe") (past (with_call make_pipe a)) s
      (record { pipe = g.pipe; pipeline = g.pipeline; base = g.base; pairs = g.pairs; is = g.is; older = g.older; from = g.from; at = g.at; one = g.one; rest = rest_on make_pipe g.rest })
  keeps_later F O go_on run slots c out h out_is cs a s (Some (r, w)) cov f g =
      let p = a.place in
      let m = neat_pair r w f.0 f.1 f.2 g.rest in
      let slots2 : Slots = with_slot (record slots { input = to_file h }) out (to_file w) in
      keeps_bind F O {Q = BegunFor p w p slots2.input (held w (write_end p) p ∷ held r (read_end p) p ∷ held h (read_end g.pipe) g.pipeline ∷ F) (kids g.pairs ++ O)}
      (LaunchedSo F O) (past (add_pair (Some (r, w)) (with_call make_pipe a)))
      (start_shell slots2 c s) (next_stage go_on (Some h) cs r w)
      (keeps_start_made F O (shell_launch slots2 c s) (is_fit (shell_launch slots2 c s)) (hands slots2 c s)
      (stage_covers _ (record slots { input = to_file h }) out w (omega (arith, one_self w))
      (covers_all (held w (write_end p) p)
      (covers_all (held r (read_end p) p)
      (record {
        input = omega (arith, one_self h);
        output = covers_more F (held h (read_end g.pipe) g.pipeline) slots.output cov.output;
        errors = covers_more F (held h (read_end g.pipe) g.pipeline) slots.errors cov.errors;
      }))))
      (stage_in w (record slots { input = to_file h }) out) (in_line_of p p m) m)
      (λ b a2 s2 q. keeps_later_begun F O go_on run p r w g.pipe g.pipeline g.base h slots2.input g.pairs cs b a2 s2 g.is g.older g.from g.at g.one
      (let l = g.rest.all_held.0.in_line.old in let e = g.at in omega arith)
      (stage_input (record slots { input = to_file h }) out r w (λ e. f.2 (sym e)) (not_input r (to_file h) (omega (arith, one_self h)) f.0 g.rest))
      (stage_from (record slots { input = to_file h }) out h w refl (λ e. not_input w (to_file h) (omega (arith, one_self h)) f.1 g.rest (sym e)) out_is)
      g.rest.all_held.0.in_line.past (below_place a F g.rest.all_held.1) (kids_below_place a (kids g.pairs ++ O) g.rest.all_known) q)

  pub keeps_stages : (F : List Held) (O : List Kid) (stages : Many stage) (slots : Slots) → (P → Outputs stages) → Covers F slots
      → (h : Option ℕ) (cs : List ℕ) (a : Account) (s : State) → Going F O h cs a s
      → Keeps a (stages_from slots stages h cs s) (Ends F O (LaunchedSo F O))
  keeps_stages F O none slots o cov h cs a s g = g
  keeps_stages F O (more (Stage c out) rest) slots o cov None cs a s g = subst (λ l. Keeps a (stages_from slots (more (Stage c out) rest) None l s) (Ends F O (LaunchedSo F O))) (sym g.0)
      (may_call make_pipe g.1 tt tt tt, λ x f. keeps_first F O (stages_from slots rest) (keeps_stages F O rest slots (λ u. (o u).1) cov) slots c out a s (as_pair x) cov f g.1)
  keeps_stages F O (more (Stage c out) rest) slots o cov (Some h) cs a s g =
      (may_call make_pipe g.rest tt tt tt, λ x f. keeps_later F O (stages_from slots rest) (keeps_stages F O rest slots (λ u. (o u).1) cov) slots c out h (λ u. (o u).0) cs a s (as_pair x) cov f g)

  keeps_settled : (F : List Held) (O : List Kid) (l : LaunchedStages) (a : Account) (s : State) → LaunchedSo F O l a s → Keeps a (settled l s) (Ends F O (StartedSo F O))
  keeps_settled F O (Launched h cs) a s g = g
  keeps_settled F O (NotLaunched cs why) a s w =
      keeps_bind F O {Q = λ ts. Rest F O} (StartedSo F O) a (wait_each cs s) (λ ts. set_status (stages_status (ts ++ why ∷ [])) >> pure Refused)
      (keeps_waits w.base F O w.pairs cs a s w.is w.older w.from w.rest)
      (λ ts b t n. neat_state (with_status t (stages_status (ts ++ why ∷ []))) refl n)

  pub keeps_start_stages : (F : List Held) (O : List Kid) (stages : Many stage) (slots : Slots) → (P → Outputs stages) → Covers F slots
      → (a : Account) (s : State) → Rest F O a s → Keeps a (start_stages slots stages s) (Ends F O (StartedSo F O))
  keeps_start_stages F O stages slots o cov a s n =
      keeps_bind F O {Q = LaunchedSo F O} (StartedSo F O) a (launch_stages slots stages s) settled (keeps_stages F O stages slots o cov None [] a s (refl, n))
      (λ l b t q. keeps_settled F O l b t q)
