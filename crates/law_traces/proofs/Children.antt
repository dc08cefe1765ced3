-- What a pipeline's last stage, a backquote and other children keep.
use Rattle.std.proofs.Common.{◌≡◌, inl, inr, ℕ, zero, suc, ◌≤◌, List, [], ◌∷◌, ◌++◌, Option, Some, None, Bool, true, false, refl, sym, subst, arith}
use Rattle.std.specs.Prelude.{nat_le, length, if◌then◌else◌, codes}
use Rattle.std.specs.Fmt.{decimal}
use Rattle.std.proofs.lemmas.Bool.Decides.{eqb_tells}
use Rattle.rc_model.specs.Run.Calls.{to_file, with_slot, Launch, open_file, make_pipe, close, read, start, as_file, as_pair, as_child, as_bytes}
use Rattle.rc_model.specs.declared.call.Slot.{Slot}
use Rattle.rc_model.specs.declared.call.Slots.{Slots}
use Rattle.rc_model.specs.declared.call.Mode.TheVariants.{Read}
use Rattle.rc_model.specs.Syntax.Tree.{Node, Many, cmd, stage}
use Rattle.rc_model.specs.Run.State.{State, set_value, put_values, values_of, covered, add_child}
use Rattle.rc_model.specs.Run.Shell.{Shell, under, leaves, pure, say}
use Rattle.rc_model.specs.Handed.Image.{is_fit, shell_launch}
use Rattle.rc_model.specs.Run.Acts.{Started, Child, NoChild, as_started, ask_start, start_shell, wait_subshell, subshell, kept_child, background_with}
use Rattle.rc_model.specs.Run.Acts.{background, StartedStages, Running, Refused, start_stages, Got, read_on, reading, read_all, longest_output}
use Rattle.rc_model.specs.Run.Acts.{back_child, back_pipe, backquote, back_words, got_all}
use Rattle.rc_model.specs.Run.Meaning.{Runner, file_end, pipe_end, piped}
use Rattle.rc_model.specs.Handed.Handed.{HandsOver}
use Rattle.rc_model.specs.Family.Accounts.{a_file, read_end, write_end, Account, with_call, add_pair, past, after, NewPair}
use Rattle.law_traces.proofs.Keep.{Keeps, keeps_under, one_self, Held, held, alone, of_line, Kid, kid_of, held_counts, child_counts, counts-append, AllOlder, older_place, NotSlot, Rest}
use Rattle.law_traces.proofs.Steps.{one_other, rest_on, may_call, may_close, rest_close, neat_pair, may_close_due, neat_passed, rest_passed, rest_wait, may_wait_alone, may_wait_line}
use Rattle.law_traces.proofs.Does.{strangers, Ends, keeps_bind, Covers, covers_more, covers_all, holds_slots, Clean, clean_bind, clean_pure}
use Rattle.law_traces.proofs.Does.{neat_state, Opened, opened_so, Taken, taken, rekid, child_counts-append, known_append, known_back, strangers_known}
use Rattle.law_traces.proofs.Does.{strangers-append}
use Rattle.law_traces.proofs.Stages.{numbers, hands, kids, GoingOn, Going, StartedSo, keeps_start_stages, keeps_end, spent_turn, rest_spent, BegunFor}
use Rattle.law_traces.proofs.Stages.{keeps_start_made, not_input, in_line_of, used_turn}

-- the last stage: children that are still owed join those of the pipeline
owe_more : {F : List Held} {a : Account} {s : State} (O : List Kid) (ks : List (ℕ × ℕ × ℕ)) (owed cs : List ℕ) → cs ≡ numbers ks
    → Rest F (strangers owed ++ (kids ks ++ O)) a s → Rest F (strangers (owed ++ cs) ++ O) a s
owe_more {a = a} O ks owed cs e n =
    rekid (strangers (owed ++ cs) ++ O) same
    (known_append a (strangers (owed ++ cs)) O (strangers_known a (owed ++ cs)) (known_back a (kids ks) O (known_back a (strangers owed) (kids ks ++ O) n.all_known))) n
  where
    kin : (l : List (ℕ × ℕ × ℕ)) (i : ℕ) → child_counts (strangers (numbers l)) i ≡ child_counts (kids l) i
    kin [] i = refl
    kin (x ∷ l) i = omega (arith, kin l i)

    same : (i : ℕ) → child_counts (strangers owed ++ (kids ks ++ O)) i ≡ child_counts (strangers (owed ++ cs) ++ O) i
    same i =
        let k : child_counts (strangers cs) i ≡ child_counts (kids ks) i = subst (λ l. child_counts (strangers l) i ≡ child_counts (kids ks) i) (sym e) (kin ks i) in
        omega (arith, child_counts-append (strangers owed) (kids ks ++ O) i, child_counts-append (kids ks) O i, child_counts-append (strangers (owed ++ cs)) O i, strangers-append owed cs i)

keeps_piped_in : (F : List Held) (O : List Kid) (h : ℕ) (cs : List ℕ) (slots : Slots) (m : Runner) (a : Account) (s : State)
    → Clean (with_slot slots 0 (to_file h)) m → Covers F slots → GoingOn ⊥ F O h cs a s
    → Keeps a (pipe_end (Some h) cs m s) (Ends F O (λ x. Rest F O))
keeps_piped_in F O h cs slots m a s k cov g =
    let end : Held = held h (read_end g.pipe) g.pipeline in
    keeps_under a (m s) _ _ (Ends (end ∷ F) (kids g.pairs ++ O) (λ x. Rest (end ∷ F) (kids g.pairs ++ O))) (Ends F O (λ x. Rest F O))
    (k.by (end ∷ F) (kids g.pairs ++ O) a s
    (record { input = omega (arith, one_self h); output = covers_more F end slots.output cov.output; errors = covers_more F end slots.errors cov.errors }) g.rest)
    (λ b x t n. keeps_end ⊥ F O (Some h) cs b t
    (record { pipe = g.pipe; pipeline = g.pipeline; base = g.base; pairs = g.pairs; is = g.is; older = g.older; from = g.from; at = g.at; one = g.one; rest = n }))
    (λ b t owed n. (may_close n, λ x f. owe_more O g.pairs owed cs g.is (rest_close n)))

keeps_piped_none : (F : List Held) (O : List Kid) (cs : List ℕ) (slots : Slots) (m : Runner) (a : Account) (s : State) → Clean slots m → Covers F slots → Going ⊥ F O None cs a s
    → Keeps a (pipe_end None cs m s) (Ends F O (λ x. Rest F O))
keeps_piped_none F O cs slots m a s k cov g =
    keeps_under a (m s) _ _ (Ends F O (λ x. Rest F O)) (Ends F O (λ x. Rest F O))
    (k.by F O a s cov g.1)
    (λ b x t n. keeps_end ⊥ F O None cs b t (g.0, n))
    (λ b t owed n. owe_more O [] owed cs g.0 n)

keeps_piped : (F : List Held) (O : List Kid) (slots : Slots) (last : Slots → Runner) → ((slots : Slots) → Clean slots (last slots))
    → (st : StartedStages) (a : Account) (s : State) → Covers F slots → StartedSo ⊥ F O st a s
    → Keeps a (piped slots last st s) (Ends F O (λ x. Rest F O))
keeps_piped F O slots last k (Running None cs) a s c g = keeps_piped_none F O cs slots (last slots) a s (k slots) c g
keeps_piped F O slots last k (Running (Some h) cs) a s c g = keeps_piped_in F O h cs slots (last (with_slot slots 0 (to_file h))) a s (k (with_slot slots 0 (to_file h))) c g
keeps_piped F O slots last k Refused a s c g = g

pub clean_pipeline : {slots : Slots} (stages : Many stage) (last : Slots → Runner) → ((slots : Slots) → Clean slots (last slots))
    → Clean slots (λ s. under (start_stages slots stages s) (piped slots last) leaves)
clean_pipeline {slots = slots} stages last k = record {
  by = λ F O a s c n.
      keeps_bind F O {Q = StartedSo ⊥ F O} (λ x. Rest F O) a (start_stages slots stages s) (piped slots last)
      (keeps_start_stages ⊥ F O stages slots (λ u. absurd u) c a s n) (λ st b t q. keeps_piped F O slots last k st b t c q);
}

-- a file that is closed where the command ends
pub keeps_file : (F : List Held) (O : List Kid) (e : Held) (slots : Slots) (m : Runner) (a : Account) (s : State) → Clean slots m
    → Covers (e ∷ F) slots → Rest (e ∷ F) O a s → Keeps a (file_end e.number m s) (Ends F O (λ x. Rest F O))
keeps_file F O e slots m a s k cov n =
    keeps_under a (m s) _ _ (Ends (e ∷ F) O (λ x. Rest (e ∷ F) O)) (Ends F O (λ x. Rest F O)) (k.by (e ∷ F) O a s cov n)
    (λ b x t q. (may_close q, λ y f. rest_close q))
    (λ b t owed q. (may_close q, λ y f. rest_close q))

-- reading
keeps_read_on : (F G : List Held) (O P : List Kid) (again : List ℕ → Shell Got) (most : ℕ) (text : List ℕ) (o : Option (List ℕ)) (a : Account) (s : State)
    → ((l : List ℕ) → Keeps a (again l s) (Ends G P (λ x. Rest F O))) → Rest F O a s → Keeps a (read_on again most text o s) (Ends G P (λ x. Rest F O))
keeps_read_on F G O P again most text None a s k n = n
keeps_read_on F G O P again most text (Some []) a s k n = n
keeps_read_on F G O P again most text (Some (b ∷ bs)) a s k n = choice (nat_le (length (text ++ b ∷ bs)) most)
  where
    choice : (c : Bool) → Keeps a ((if c then again (text ++ b ∷ bs) else pure (got_all (text ++ b ∷ bs) (Some (codes "too large")))) s) (Ends G P (λ x. Rest F O))
    choice true = k (text ++ b ∷ bs)
    choice false = n

pub keeps_reading : (F G : List Held) (O P : List Kid) (h : ℕ) (n most : ℕ) (text : List ℕ) (a : Account) (s : State) → 1 ≤ held_counts F h
    → Rest F O a s → Keeps a (reading n most h text s) (Ends G P (λ x. Rest F O))
keeps_reading F G O P h zero most text a s m k = k
keeps_reading F G O P h (suc n) most text a s m k = (
  may_call (read h) k (omega (arith, k.files h)) tt tt,
  λ x f.
      let q = rest_on (read h) k in
      keeps_read_on F G O P (reading n most h) most text (as_bytes x) (after a (read h) x) s (λ l. keeps_reading F G O P h n most l (after a (read h) x) s m q) q,
)

-- a backquote
keeps_back_child : (F : List Held) (O : List Kid) (p r w : ℕ) (i : Slot) (b : Started) (a : Account) (s : State) → AllOlder p F → NotSlot i r
    → BegunFor p w p i (held w (write_end p) p ∷ held r (read_end p) p ∷ F) O b a s → Keeps a (back_child r w b s) (Ends F O (λ t. Rest F O))
keeps_back_child F O p r w i (Child k) a s old ni n = (
  may_close_due (used_turn p w i) n,
  λ x f.
      keeps_bind F O {Q = λ t. Rest (held r (read_end p) p ∷ F) (kid_of k (of_line p p) ∷ O)} (λ t. Rest F O) (past (with_call (close w) a)) (read_all longest_output r s) _
      (keeps_reading (held r (read_end p) p ∷ F) F (kid_of k (of_line p p) ∷ O) O r (suc longest_output) longest_output []
      (past (with_call (close w) a)) s (omega (arith, one_self r)) (rest_passed ni (neat_passed n)))
      (λ t b u q. (may_close q, λ x f. let m = rest_close q in (may_wait_line old m, λ y g. neat_state _ refl (rest_wait m)))),
)
keeps_back_child F O p r w i (NoChild why) a s old ni n = (may_close_due (spent_turn p w i) n, λ x f. let m = rest_spent ni n in (may_close m, λ y g. neat_state _ refl (rest_close m)))

keeps_back_pipe : (F : List Held) (O : List Kid) (slots : Slots) (c : Node cmd) (a : Account) (s : State) (o : Option (ℕ × ℕ)) → Covers F slots → NewPair o a → Rest F O a s
    → Keeps (past (add_pair o (with_call make_pipe a))) (back_pipe slots c o s) (Ends F O (λ t. Rest F O))
keeps_back_pipe F O slots c a s None cov f n = neat_state _ refl (rest_on make_pipe n)
keeps_back_pipe F O slots c a s (Some (r, w)) cov f n =
    let p = a.place in
    let m = neat_pair r w f.0 f.1 f.2 n in
    let top : Slots = with_slot slots 1 (to_file w) in
    let cov2 = covers_all (held w (write_end p) p) (covers_all (held r (read_end p) p) cov) in
    keeps_bind F O {Q = BegunFor p w p slots.input (held w (write_end p) p ∷ held r (read_end p) p ∷ F) O} (λ t. Rest F O) (past (add_pair (Some (r, w)) (with_call make_pipe a)))
    (start_shell top c s) (back_child r w)
    (keeps_start_made F O (shell_launch top c s) (is_fit (shell_launch top c s)) (hands top c s)
    (record { input = cov2.input; output = omega (arith, one_self w); errors = cov2.errors }) (inl (inr refl)) (in_line_of p p m) m)
    (λ b a2 s2 q. keeps_back_child F O p r w slots.input b a2 s2 (older_place a F n.all_held) (not_input r slots.input cov.input f.0 n) q)

clean_backquote : (slots : Slots) (c : Node cmd) → Clean slots (backquote slots c)
clean_backquote slots c = record { by = λ F O a s cov n. (may_call make_pipe n tt tt tt, λ x f. keeps_back_pipe F O slots c a s (as_pair x) cov f n) }

pub clean_back : (slots : Slots) (c : Node cmd) → Clean slots (back_words slots c)
clean_back slots c = clean_bind (backquote slots c) _ (clean_backquote slots c) (λ t. clean_pure _)

-- a child that is started for no pipe, where its launch fits
abbrev pub BegunSo : List Held → List Kid → Started → Account → State → Type 0
BegunSo F O (Child k) a s = Rest F (kid_of k alone ∷ O) a s
BegunSo F O (NoChild why) a s = Rest F O a s

begun_so : (F : List Held) (O : List Kid) (o : Option ℕ) (b : Account) (t : State) → Taken F O o b t → BegunSo F O (as_started o) b t
begun_so F O (Some k) b t q = q
begun_so F O None b t q = q

pub keeps_start : (F G : List Held) (O P : List Kid) (l : Launch) (c : Bool) → (c ≡ true → HandsOver (start l)) → (a : Account) (s : State)
    → Covers F l.slots → Rest F O a s → Keeps a ((if c then ask_start l else pure (NoChild (codes "too large"))) s) (Ends G P (BegunSo F O))
keeps_start F G O P l false h a s cov n = n
keeps_start F G O P l true h a s cov n = (may_call (start l) n (holds_slots l.slots cov n) tt (h refl), λ x f. begun_so F O (as_child x) _ s (taken l (as_child x) f n))

keeps_subshell : (F : List Held) (O : List Kid) (b : Started) (a : Account) (s : State) → BegunSo F O b a s → Keeps a (wait_subshell b s) (Ends F O (λ x. Rest F O))
keeps_subshell F O (Child k) a s n = (may_wait_alone n, λ x f. neat_state _ refl (rest_wait n))
keeps_subshell F O (NoChild why) a s n = neat_state _ refl n

pub clean_subshell : (slots : Slots) (c : Node cmd) → Clean slots (subshell slots c)
clean_subshell slots c = record {
  by = λ F O a s cov n.
      keeps_bind F O {Q = BegunSo F O} (λ x. Rest F O) a (start_shell slots c s) wait_subshell
      (keeps_start F F O O (shell_launch slots c s) (is_fit (shell_launch slots c s)) (hands slots c s) a s cov n)
      (λ b a2 s2 q. keeps_subshell F O b a2 s2 q);
}

-- the background
pub same_background : (c : Bool) (s t u : State) → t.background ≡ s.background → u.background ≡ s.background → (if c then t else u).background ≡ s.background
same_background true s t u e f = e
same_background false s t u e f = f

pub set_keeps : (name : List ℕ) (value : List (List ℕ)) (s : State) → (set_value s name value).background ≡ s.background
set_keeps name value s = same_background _ s _ (record s { variables = put_values s.variables name (value ∷ covered (values_of s name)) }) refl refl

keeps_kept_child : (F : List Held) (O : List Kid) (b : Started) (a : Account) (s : State) → BegunSo F O b a s → Keeps a (kept_child b s) (Ends F O (λ x. Rest F O))
keeps_kept_child F O (Child k) a s n =
    let m : Rest F O a (add_child s k) = record {
      due = n.due;
      files = n.files;
      owed = λ i. omega (arith, n.owed i, counts-append s.background (k ∷ []) i);
      all_held = n.all_held;
      all_known = n.all_known.1;
      background = λ i h. elim (eqb_tells k i) [
        | inl e ↦ subst (λ j. a.feeds j ≡ None) e.1 n.all_known.0
        | inr e ↦ let z = one_other k i e.1 in n.background i (omega (arith, counts-append s.background (k ∷ []) i))
      ];
    } in
    neat_state _ (set_keeps (codes "apid") (decimal k ∷ []) (add_child s k)) m
keeps_kept_child F O (NoChild why) a s n = neat_state _ refl n

keeps_background_child : (F : List Held) (O : List Kid) (h : ℕ) (b : Started) (a : Account) (s : State) → BegunSo (held h a_file 0 ∷ F) O b a s
    → Keeps a (under (say (close h) s) (λ x. kept_child b) leaves) (Ends F O (λ x. Rest F O))
keeps_background_child F O h (Child k) a s n = (may_close n, λ x f. keeps_kept_child F O (Child k) (past (with_call (close h) a)) s (rest_close n))
keeps_background_child F O h (NoChild why) a s n = (may_close n, λ x f. keeps_kept_child F O (NoChild why) (past (with_call (close h) a)) s (rest_close n))

keeps_background_with : (F : List Held) (O : List Kid) (slots : Slots) (c : Node cmd) (o : Option ℕ) (a : Account) (s : State) → Covers F slots
    → Opened F O o a s → Keeps a (background_with slots c o s) (Ends F O (λ x. Rest F O))
keeps_background_with F O slots c None a s cov n = neat_state _ refl n
keeps_background_with F O slots c (Some h) a s cov n =
    let in_slots : Slots = with_slot slots 0 (to_file h) in
    keeps_bind F O {Q = BegunSo (held h a_file 0 ∷ F) O} (λ x. Rest F O) a (start_shell in_slots c s) (λ b. λ t. under (say (close h) t) (λ x. kept_child b) leaves)
    (keeps_start (held h a_file 0 ∷ F) F O O (shell_launch in_slots c s) (is_fit (shell_launch in_slots c s)) (hands in_slots c s) a s
    (record { input = omega (arith, one_self h); output = covers_more F (held h a_file 0) slots.output cov.output; errors = covers_more F (held h a_file 0) slots.errors cov.errors }) n)
    (λ b a2 s2 q. keeps_background_child F O h b a2 s2 q)

pub clean_background : (slots : Slots) (c : Node cmd) → Clean slots (background slots c)
clean_background slots c = record {
  by = λ F O a s cov n. (
    may_call (open_file (codes "/dev/null") Read) n tt tt tt,
    λ x f. keeps_background_with F O slots c (as_file x)
        (after a (open_file (codes "/dev/null") Read) x) s cov (opened_so (open_file (codes "/dev/null") Read) (as_file x) f n),
  );
}
