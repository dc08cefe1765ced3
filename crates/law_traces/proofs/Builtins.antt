-- What programs and the built-in commands keep.
use Rattle.std.proofs.Common.{◌≡◌, inl, inr, ℕ, suc, ◌+◌, ◌≤◌, List, [], ◌∷◌, ◌++◌, Option, Some, None, Bool, true, false, refl, sym, ap, ◌∙◌, subst, arith}
use Rattle.std.specs.Prelude.{if◌then◌else◌, codes, ◌==◌, drop}
use Rattle.std.specs.List.{list_any}
use Rattle.std.proofs.lemmas.Bool.{eq-eqb}
use Rattle.std.proofs.lemmas.Bool.Decides.{eqb_tells}
use Rattle.rc_model.specs.Syntax.Text.{spaced}
use Rattle.rc_model.specs.Run.Numbers.{number_of}
use Rattle.rc_model.specs.Mirrors.TreeOfText.{tree_of}
use Rattle.rc_model.specs.Run.Calls.{open_file, close, write, probe, change_dir, as_file, as_kind, as_done}
use Rattle.rc_model.specs.declared.call.Slots.{Slots}
use Rattle.rc_model.specs.declared.call.Mode.TheVariants.{Read}
use Rattle.rc_model.specs.Syntax.Tree.{Node, cmd}
use Rattle.rc_model.specs.Run.State.{State, value_of, set_value, function_of, without_child, drop_child}
use Rattle.rc_model.specs.Run.Shell.{Shell, ShellResult, Next, Exit, ◌>>◌, pure, call, say, exits}
use Rattle.rc_model.specs.Handed.Image.{is_fit, program_launch}
use Rattle.rc_model.specs.Run.Acts.{set_status, report, refuse, is_path, candidates, is_program, first_program, find_program, Started, Child, NoChild}
use Rattle.rc_model.specs.Run.Acts.{start_if_fit, wait_started, run_found, run_program, read_all, longest_file}
use Rattle.rc_model.specs.declared.builtin.Builtin.{Builtin}
use Rattle.rc_model.specs.declared.builtin.Builtin.TheVariants.{Dot, BuiltinWord, Cd, Eval, Exec, Exit as ExitWord, Shift, Wait, Whatis}
use Rattle.rc_model.specs.Run.Builtins.{builtin_named, Called, Finished, Body, BodyWith, finished, usage, as_body, as_body_with, opened_or}
use Rattle.rc_model.specs.Run.Builtins.{open_first, whole_file, run_file, dot, first_dir, dirs_of, first_member, cd, exit_status, shifted, shift}
use Rattle.rc_model.specs.Run.Builtins.{wait_child, wait_all, wait_one, wait_numbered, wait_for, value_line, function_line, program_line, other_line}
use Rattle.rc_model.specs.Run.Builtins.{command_line, known_of, known_each, met, write_lines, whatis, exec, run_builtin, run_command}
use Rattle.rc_model.specs.Run.Builtins.{without_functions, run_named, run_words}
use Rattle.rc_model.specs.Family.Accounts.{a_file, Account, one, counts, with_call, past, after}
use Rattle.law_traces.proofs.Keep.{Keeps, keeps_mono, one_self, Held, held, alone, Kid, kid_of, Rest}
use Rattle.law_traces.proofs.Steps.{one_other, may_call, may_close, rest_close, rest_wait, may_wait_alone}
use Rattle.law_traces.proofs.Does.{Ends, keeps_bind, Covers, Clean, clean_bind, clean_pure, clean_skip, clean_exits, clean_probe, clean_report}
use Rattle.law_traces.proofs.Does.{clean_fails, clean_status, clean_change, neat_state, Opened, opened_so}
use Rattle.law_traces.proofs.Children.{BegunSo, keeps_start, keeps_reading, set_keeps}
use Rattle.law_traces.proofs.Forms.{clean_dir, clean_output, clean_if, clean_at, clean_then, clean_from}

-- programs
clean_first_program : {slots : Slots} (paths : List (List ℕ)) → Clean slots (first_program paths)
clean_first_program [] = clean_pure None
clean_first_program (p ∷ ps) = clean_bind (call (probe p)) _ (clean_probe p) (λ a. clean_if (is_program (as_kind a)) (pure (Some p)) (first_program ps) (clean_pure (Some p)) (clean_first_program ps))

clean_find : {slots : Slots} (name : List ℕ) → Clean slots (find_program name)
clean_find name = clean_if (is_path name) (pure (Some name)) _ (clean_pure (Some name)) (clean_at (λ s. first_program (candidates s name)) (λ t. clean_first_program (candidates t name)))

clean_refuse : {slots : Slots} (name why : List ℕ) → Clean slots (refuse slots name why)
clean_refuse {slots = slots} name why = clean_then (report slots (name ++ codes ": " ++ why)) _ (clean_report (name ++ codes ": " ++ why)) (clean_status why)

keeps_wait_started : (F : List Held) (O : List Kid) (slots : Slots) (name : List ℕ) (b : Started) (a : Account) (s : State) → Covers F slots
    → BegunSo F O b a s → Keeps a (wait_started slots name b s) (Ends F O (λ x. Rest F O))
keeps_wait_started F O slots name (NoChild why) a s c n = (clean_refuse name why).by F O a s c n
keeps_wait_started F O slots name (Child k) a s c n = (may_wait_alone n, λ x f. neat_state _ refl (rest_wait n))

clean_found : {slots : Slots} (name : List ℕ) (args : List (List ℕ)) (o : Option (List ℕ)) → Clean slots (run_found slots name args o)
clean_found name args None = clean_refuse name (codes "not found")
clean_found {slots = slots} name args (Some path) = record {
  by = λ F O a s c n.
      keeps_bind F O {Q = BegunSo F O} (λ x. Rest F O) a (start_if_fit (program_launch slots path args s) s) (wait_started slots name)
      (keeps_start F F O O (program_launch slots path args s) (is_fit (program_launch slots path args s)) (λ e. tt) a s c n)
      (λ b a2 s2 q. keeps_wait_started F O slots name b a2 s2 c q);
}

clean_program : {slots : Slots} (name : List ℕ) (args : List (List ℕ)) → Clean slots (run_program slots name args)
clean_program {slots = slots} name args = clean_bind (find_program name) (run_found slots name args) (clean_find name) (clean_found name args)

-- what is over once it is done
clean_finished : {slots : Slots} (m : Shell (Unit {0})) → Clean slots m → Clean slots (finished m)
clean_finished m k = clean_then m (pure Finished) k (clean_pure Finished)

clean_ends : {slots : Slots} (t : List ℕ) → Clean slots (finished (set_status t))
clean_ends t = clean_finished (set_status t) (clean_status t)

clean_usage : {slots : Slots} → Clean slots usage
clean_usage = clean_ends (codes "usage")

clean_body : {slots : Slots} (o : Option (Node cmd)) → Clean slots (as_body o)
clean_body (Some c) = clean_pure (Body c)
clean_body None = clean_ends (codes "syntax error")

clean_body_with : {slots : Slots} (args : List (List ℕ)) (o : Option (Node cmd)) → Clean slots (as_body_with args o)
clean_body_with args (Some c) = clean_pure (BodyWith args c)
clean_body_with args None = clean_ends (codes "syntax error")

-- `.`
keeps_or_open : (F : List Held) (O : List Kid) (ps : List (List ℕ)) {s : State}
    → ((b : Account) → Rest F O b s → Keeps b (open_first ps s) (Ends F O (Opened F O))) → (o : Option ℕ) (b : Account) → Opened F O o b s
    → Keeps b (opened_or (open_first ps) o s) (Ends F O (Opened F O))
keeps_or_open F O ps k (Some h) b q = q
keeps_or_open F O ps k None b q = k b q

keeps_open_first : (F : List Held) (O : List Kid) (ps : List (List ℕ)) (a : Account) (s : State) → Rest F O a s → Keeps a (open_first ps s) (Ends F O (Opened F O))
keeps_open_first F O [] a s n = n
keeps_open_first F O (p ∷ ps) a s n = (
  may_call (open_file p Read) n tt tt tt,
  λ x f. keeps_or_open F O ps (λ b q. keeps_open_first F O ps b s q) (as_file x)
      (after a (open_file p Read) x) (opened_so (open_file p Read) (as_file x) f n),
)

clean_whole_file : {slots : Slots} (args : List (List ℕ)) (text : List ℕ) (why : Option (List ℕ)) → Clean slots (whole_file args text why)
clean_whole_file args text None = clean_body_with args (tree_of text)
clean_whole_file args text (Some why) = clean_ends why

keeps_run_file : (F : List Held) (O : List Kid) (slots : Slots) (args : List (List ℕ)) (o : Option ℕ) (a : Account) (s : State) → Covers F slots
    → Opened F O o a s → Keeps a (run_file args o s) (Ends F O (λ x. Rest F O))
keeps_run_file F O slots args None a s c n = neat_state _ refl n
keeps_run_file F O slots args (Some h) a s c n =
    keeps_bind F O {Q = λ t. Rest (held h a_file 0 ∷ F) O} (λ x. Rest F O) a (read_all longest_file h s) (λ out. say (close h) >> whole_file args out.text out.why)
    (keeps_reading (held h a_file 0 ∷ F) F O O h (suc longest_file) longest_file [] a s (omega (arith, one_self h)) n)
    (λ t b u q. (may_close q, λ x f. (clean_whole_file args t.text t.why).by F O (past (with_call (close h) b)) u c (rest_close q)))

clean_dot : {slots : Slots} (args : List (List ℕ)) → Clean slots (dot args)
clean_dot [] = clean_usage
clean_dot {slots = slots} (file ∷ args) = record {
  by = λ F O a s c n. keeps_bind F O {Q = Opened F O} (λ x. Rest F O) a (open_first (candidates s file) s) (run_file args)
      (keeps_open_first F O (candidates s file) a s n) (λ o b t q. keeps_run_file F O slots args o b t c q);
}

-- `cd`
clean_first_dir : {slots : Slots} (ds : List (List ℕ)) → Clean slots (first_dir ds)
clean_first_dir [] = clean_status (codes "cannot cd")
clean_first_dir (d ∷ ds) = clean_bind (call (change_dir d)) _ (clean_dir d) (λ a. clean_if (as_done a) (set_status []) (first_dir ds) (clean_status []) (clean_first_dir ds))

clean_cd : {slots : Slots} (args : List (List ℕ)) → Clean slots (cd args)
clean_cd [] = clean_from (λ s. finished (first_dir (dirs_of s (first_member (value_of s (codes "home")))))) (λ t. clean_finished (first_dir _) (clean_first_dir _))
clean_cd (dir ∷ []) = clean_from (λ s. finished (first_dir (dirs_of s (dir ∷ [])))) (λ t. clean_finished (first_dir _) (clean_first_dir _))
clean_cd (dir ∷ other ∷ others) = clean_usage

-- `exit` and `shift`
clean_exit_status : {slots : Slots} (args : List (List ℕ)) → Clean slots (exit_status args)
clean_exit_status [] = clean_skip
clean_exit_status (w ∷ ws) = clean_status (spaced (w ∷ ws))

clean_shifted : {slots : Slots} (o : Option ℕ) → Clean slots (shifted o)
clean_shifted None = clean_usage
clean_shifted (Some n) =
    clean_finished _
    (clean_change (λ s. record (set_value s (codes "*") (drop n (value_of s (codes "*")))) { status = [] }) (λ s. set_keeps (codes "*") (drop n (value_of s (codes "*"))) s))

clean_shift : {slots : Slots} (args : List (List ℕ)) → Clean slots (shift args)
clean_shift [] = clean_shifted (Some 1)
clean_shift (n ∷ []) = clean_shifted (number_of n)
clean_shift (n ∷ m ∷ ms) = clean_usage

-- waits for the background
dropped : (k : ℕ) (l : List ℕ) → 1 ≤ counts l k → (i : ℕ) → counts (without_child k l) i + one k i ≡ counts l i
dropped k [] h i = absurd (omega arith)
dropped k (x ∷ xs) h i =
    elim
    (eqb_tells x k) [
      | inl e ↦ rw e.0 (subst (λ j. counts xs i + one j i ≡ one x i + counts xs i) e.1 (omega arith))
      | inr e ↦ rw e.0
          (let z = one_other x k e.1 in omega (arith, dropped k xs (omega arith) i))
    ]

keeps_wait_child : (F : List Held) (O : List Kid) (k : ℕ) (a : Account) (s : State) → 1 ≤ counts s.background k → Rest F O a s
    → Keeps a (wait_child k s) (Ends F O (λ x b t. Rest F O b t × (t.background ≡ without_child k s.background)))
keeps_wait_child F O k a s h n =
    let m : Rest F (kid_of k alone ∷ O) a (drop_child s k) = record {
      due = n.due;
      files = n.files;
      owed = λ i. omega (arith, n.owed i, dropped k s.background h i);
      all_held = n.all_held;
      all_known = (n.background k h, n.all_known);
      background = λ i j. n.background i (omega (arith, dropped k s.background h i));
    } in
    (may_wait_alone m, λ x f. (neat_state _ refl (rest_wait m), refl))

keeps_wait_all : (F : List Held) (O : List Kid) (ks : List ℕ) (a : Account) (s : State) → s.background ≡ ks → Rest F O a s → Keeps a (wait_all ks s) (Ends F O (λ x. Rest F O))
keeps_wait_all F O [] a s e n = n
keeps_wait_all F O (k ∷ ks) a s e n =
    keeps_bind F O {Q = λ x b t. Rest F O b t × (t.background ≡ without_child k s.background)} (λ x. Rest F O) a (wait_child k s) (λ x. wait_all ks)
    (keeps_wait_child F O k a s (subst (λ l. 1 ≤ counts l k) (sym e) (omega (arith, one_self k))) n)
    (λ x b t q. keeps_wait_all F O ks b t (q.1 ∙ (ap (without_child k) e ∙ rw (eq-eqb k k refl))) q.0)

is_in : (k : ℕ) (l : List ℕ) → list_any (λ m. m == k) l ≡ true → 1 ≤ counts l k
is_in k [] e = absurd cc
is_in k (x ∷ xs) e =
    elim
    (eqb_tells x k) [ inl t ↦ subst (λ j. 1 ≤ one x j + counts xs j) t.1 (omega (arith, one_self x)) | inr t ↦ let m : list_any (λ m. m == k) xs ≡ true = rw t.0 at e in omega (arith, is_in k xs m) ]

forget : (F : List Held) (O : List Kid) (l : List ℕ) (a : Account) (r : ShellResult (Unit {0})) → Ends F O (λ x b t. Rest F O b t × (t.background ≡ l)) a r → Ends F O (λ x. Rest F O) a r
forget F O l a (Next x s) q = q.0
forget F O l a (Exit s owed) q = q

clean_wait_one : {slots : Slots} (k : ℕ) → Clean slots (λ s. wait_one k s s)
clean_wait_one {slots = slots} k = record { by = λ F O a s cov n. choice F O a s cov n (list_any (λ m. m == k) s.background) refl }
  where
    choice : (F : List Held) (O : List Kid) (a : Account) (s : State) → Covers F slots → Rest F O a s → (c : Bool) → list_any (λ m. m == k) s.background ≡ c
        → Keeps a ((if c then wait_child k else set_status (codes "no such child")) s) (Ends F O (λ x. Rest F O))
    choice F O a s cov n true e = keeps_mono a (wait_child k s) _ _ (forget F O (without_child k s.background)) (keeps_wait_child F O k a s (is_in k s.background e) n)
    choice F O a s cov n false e = neat_state _ refl n

clean_wait_numbered : {slots : Slots} (o : Option ℕ) → Clean slots (wait_numbered o)
clean_wait_numbered None = clean_usage
clean_wait_numbered (Some k) = clean_finished (λ s. wait_one k s s) (clean_wait_one k)

clean_wait_for : {slots : Slots} (args : List (List ℕ)) → Clean slots (wait_for args)
clean_wait_for [] = clean_then (set_status []) _ (clean_status []) (clean_finished (λ s. wait_all s.background s) (record { by = λ F O a s c n. keeps_wait_all F O s.background a s refl n }))
clean_wait_for (n ∷ []) = clean_wait_numbered (number_of n)
clean_wait_for (n ∷ m ∷ ms) = clean_usage

-- `whatis`
clean_other_line : {slots : Slots} (name shown : List ℕ) → Clean slots (other_line name shown)
clean_other_line name [] = clean_bind (find_program name) _ (clean_find name) (λ p. clean_pure (program_line p))
clean_other_line name (b ∷ bs) = clean_pure ([], None)

clean_command_line : {slots : Slots} (name shown : List ℕ) (o : Option (Node cmd)) (b : Option Builtin) → Clean slots (command_line name shown o b)
clean_command_line name shown (Some body) b = clean_pure (function_line name body)
clean_command_line name shown None (Some b) = clean_pure _
clean_command_line name shown None None = clean_other_line name shown

clean_known : {slots : Slots} (name : List ℕ) → Clean slots (known_of name)
clean_known name =
    clean_from _
    (λ t. clean_bind (command_line name (value_line name (value_of t name)) (function_of t name) (builtin_named name)) _
    (clean_command_line name (value_line name (value_of t name)) (function_of t name) (builtin_named name)) (λ k. clean_pure _))

clean_known_each : {slots : Slots} (names : List (List ℕ)) → Clean slots (known_each names)
clean_known_each [] = clean_pure ([], None)
clean_known_each (name ∷ names) = clean_bind (known_of name) _ (clean_known name) (λ first. clean_bind (known_each names) _ (clean_known_each names) (λ others. clean_pure _))

clean_write_lines : {slots : Slots} (text : List ℕ) (status : Option (List ℕ)) → Clean slots (write_lines slots text status)
clean_write_lines [] status = clean_status (met status)
clean_write_lines {slots = slots} (b ∷ bs) status = clean_bind (call (write slots.output (b ∷ bs))) _ (clean_output (b ∷ bs)) (λ a. clean_status _)

clean_whatis : {slots : Slots} (names : List (List ℕ)) → Clean slots (whatis slots names)
clean_whatis {slots = slots} names = clean_bind (known_each names) _ (clean_known_each names) (λ k. clean_finished (write_lines slots k.0 k.1) (clean_write_lines k.0 k.1))

-- `exec`
clean_exec : {slots : Slots} (args : List (List ℕ)) → Clean slots (exec slots args)
clean_exec [] = clean_usage
clean_exec {slots = slots} (name ∷ args) = clean_then (run_program slots name args) exits (clean_program name args) clean_exits

-- the words of a simple command
clean_builtin : {slots : Slots} (again : Shell Called) → Clean slots again → (b : Builtin) (args : List (List ℕ)) → Clean slots (run_builtin again slots b args)
clean_builtin again k Dot args = clean_dot args
clean_builtin again k BuiltinWord args = k
clean_builtin again k Cd args = clean_cd args
clean_builtin again k Eval args = clean_body (tree_of (spaced args))
clean_builtin again k Exec args = clean_exec args
clean_builtin again k ExitWord args = clean_then (exit_status args) exits (clean_exit_status args) clean_exits
clean_builtin again k Shift args = clean_shift args
clean_builtin again k Wait args = clean_wait_for args
clean_builtin again k Whatis args = clean_whatis args

clean_command : {slots : Slots} (again : Shell Called) → Clean slots again → (name : List ℕ) (args : List (List ℕ)) (b : Option Builtin) → Clean slots (run_command again slots name args b)
clean_command again k name args (Some b) = clean_builtin again k b args
clean_command {slots = slots} again k name args None = clean_finished (run_program slots name args) (clean_program name args)

clean_without : {slots : Slots} (words : List (List ℕ)) → Clean slots (without_functions slots words)
clean_without [] = clean_usage
clean_without {slots = slots} (name ∷ args) = clean_command (without_functions slots args) (clean_without args) name args (builtin_named name)

clean_named : {slots : Slots} (name : List ℕ) (args : List (List ℕ)) (o : Option (Node cmd)) → Clean slots (run_named slots name args o)
clean_named name args (Some body) = clean_pure (BodyWith args body)
clean_named name args None = clean_without (name ∷ args)

pub clean_words : {slots : Slots} (words : List (List ℕ)) → Clean slots (run_words slots words)
clean_words [] = clean_fails (codes "empty argument list")
clean_words {slots = slots} (name ∷ args) = clean_from (λ s. run_named slots name args (function_of s name)) (λ t. clean_named name args (function_of t name))
