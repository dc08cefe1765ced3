-- What the calls of names, values, file names, programs and children are.
use Rattle.std.proofs.Common.{ℕ, zero, suc, List, [], ◌∷◌, ◌++◌, Option, Some, None, Bool, true, false, refl}
use Rattle.std.specs.Prelude.{Result, Ok, Err, if◌then◌else◌, codes, length, nat_le}
use Rattle.std.specs.List.{list_any}
use Rattle.std.specs.Fmt.{decimal}
use Rattle.rc_model.specs.Syntax.Words.{Word, word_text, word_texts, plain_words, has_pattern}
use Rattle.rc_model.specs.Syntax.Tree.{Node, Many, cmd, piece}
use Rattle.rc_model.specs.declared.call.Slots.{Slots}
use Rattle.rc_model.specs.declared.call.Mode.{Mode}
use Rattle.rc_model.specs.declared.call.Mode.TheVariants.{Read}
use Rattle.rc_model.specs.Run.Calls.{to_file, with_slot, Launch, open_file, here, make_pipe, close, read, write, start, wait, list_names, probe}
use Rattle.rc_model.specs.Run.Calls.{as_file, as_pair, as_bytes, as_kind, as_child, as_names}
use Rattle.rc_model.specs.Run.Lists.{concatenated, list_words}
use Rattle.rc_model.specs.Run.State.{State, dollar_value, is_name, is_readable, is_function_name, define}
use Rattle.rc_model.specs.Run.Shell.{Shell, ◌>>=◌, pure, call, say, change, exits}
use Rattle.rc_model.specs.Run.FileNames.{components, directory, fitting_names, each_name, if_there, listed, step, walk, paths_of, or_itself, names_of, expanded_word, expanded}
use Rattle.rc_model.specs.Run.Acts.{set_status, report, runtime_error, fails, close_end, one_name, variable, value, value_words, count_words}
use Rattle.rc_model.specs.Run.Acts.{flat_words, selected_words, joined_lists, concat_words, define_each, opened, open_one, here_text, open_here}
use Rattle.rc_model.specs.Run.Acts.{is_path, candidates, is_program, first_program, find_program, waited, wait_each, Started, Child, NoChild}
use Rattle.rc_model.specs.Run.Acts.{as_started, ask_start, start_shell, refuse, wait_started, run_found, run_program, wait_subshell, subshell}
use Rattle.rc_model.specs.Run.Acts.{kept_child, background_with, background, Got, got_all, read_on, reading, read_all, longest_output, output_members}
use Rattle.rc_model.specs.Run.Acts.{back_status, back_child, back_pipe, backquote, back_words}
use Rattle.rc_model.specs.Handed.Image.{is_fit, program_launch, shell_launch}
use Rattle.rc_model.specs.declared.fault.ListFault.{ListFault}
use Rattle.rc_model.specs.Run.Acts.{cannot_open, here_name, not_one_word}
use Rattle.law_descriptors.specs.Covering.{AreAmong}
use Rattle.law_descriptors.proofs.Keeps.{Keeps, bind, next, keeps_pure, keeps_skip, keeps_exits, keeps_call, keeps_say, keeps_change, keeps_status, keeps_from, keeps_at, keeps_if, among_file}

module _ (P : ℕ → Type 0) (o : Bool) where
  pub keeps_close_end : (h : Option ℕ) → Keeps P o (close_end h)
  keeps_close_end None = record { by = λ s. tt }
  keeps_close_end (Some h) = record { by = λ s. (tt, λ x. tt) }

  -- file names
  keeps_each_name : (go : List ℕ → Shell (List (List ℕ))) → ((path : List ℕ) → Keeps P o (go path)) → (path : List ℕ) (names : List (List ℕ)) → Keeps P o (each_name go path names)
  keeps_each_name go k path [] = keeps_pure []
  keeps_each_name go k path (n ∷ ns) = bind (go (path ++ n)) _ (k (path ++ n)) (λ first. bind (each_name go path ns) _ (keeps_each_name go k path ns) (λ others. keeps_pure (first ++ others)))

  keeps_step : (c : Word) (go : List ℕ → Shell (List (List ℕ))) → ((path : List ℕ) → Keeps P o (go path)) → (path : List ℕ) → Keeps P o (step c go path)
  keeps_step c go k path = keeps_if (has_pattern c) (listed c go path) (go (path ++ word_text c))
      (bind (call (list_names (directory path))) _ (keeps_call (list_names (directory path)) tt) (λ a. keeps_each_name go k path (fitting_names c (as_names a)))) (k (path ++ word_text c))

  keeps_if_there : (path : List ℕ) → Keeps P o (if_there path)
  keeps_if_there path = bind (call (probe path)) _ (keeps_call (probe path) tt) (λ a. keeps_pure _)

  keeps_walk : (cs : List Word) (path : List ℕ) → Keeps P o (walk cs path)
  keeps_walk [] path = keeps_pure (path ∷ [])
  keeps_walk (c ∷ cs) path = keeps_if (list_any has_pattern (c ∷ cs)) _ _ (keeps_step c (walk cs) (keeps_walk cs) (path ++ codes "/")) (keeps_if_there _)

  keeps_paths : (cs : List Word) → Keeps P o (paths_of cs)
  keeps_paths [] = keeps_pure []
  keeps_paths (c ∷ cs) = keeps_step c (walk cs) (keeps_walk cs) []

  keeps_expanded_word : (v : Word) → Keeps P o (expanded_word v)
  keeps_expanded_word v = keeps_if (has_pattern v) (names_of v) (pure (v ∷ [])) (bind (paths_of (components v)) _ (keeps_paths (components v)) (λ p. keeps_pure (or_itself v p))) (keeps_pure (v ∷ []))

  pub keeps_expanded : (vs : List Word) → Keeps P o (expanded vs)
  keeps_expanded [] = keeps_pure []
  keeps_expanded (v ∷ vs) = bind (expanded_word v) _ (keeps_expanded_word v) (λ first. bind (expanded vs) _ (keeps_expanded vs) (λ others. keeps_pure (first ++ others)))

  -- waits
  pub keeps_waited : (n : ℕ) → Keeps P o (waited n)
  keeps_waited n = bind (call (wait n)) _ (keeps_call (wait n) tt) (λ a. keeps_pure _)

  pub keeps_wait_each : (ns : List ℕ) → Keeps P o (wait_each ns)
  keeps_wait_each [] = keeps_pure []
  keeps_wait_each (n ∷ ns) = bind (waited n) _ (keeps_waited n) (λ first. bind (wait_each ns) _ (keeps_wait_each ns) (λ others. keeps_pure (first ∷ others)))

  keeps_waited_status : (n : ℕ) → Keeps P o (waited n >>= set_status)
  keeps_waited_status n = bind (waited n) set_status (keeps_waited n) keeps_status

  -- starts, where the launch fits
  keeps_started : (l : Launch) (t : Bool) → AreAmong P l.slots → Keeps P o (if t then ask_start l else pure (NoChild (codes "too large")))
  keeps_started l true h = bind (call (start l)) _ (keeps_call (start l) h) (λ a. keeps_pure (as_started (as_child a)))
  keeps_started l false h = keeps_pure (NoChild (codes "too large"))

  pub keeps_start_shell : (slots : Slots) → AreAmong P slots → (body : Node cmd) → Keeps P o (start_shell slots body)
  keeps_start_shell slots w body = keeps_from _ (λ t. keeps_started (shell_launch slots body t) (is_fit (shell_launch slots body t)) w)

  keeps_start_program : (slots : Slots) → AreAmong P slots → (path : List ℕ) (args : List (List ℕ)) (t : State)
      → Keeps P o (if is_fit (program_launch slots path args t) then ask_start (program_launch slots path args t) else pure (NoChild (codes "too large")))
  keeps_start_program slots w path args t = keeps_started (program_launch slots path args t) (is_fit (program_launch slots path args t)) w

  -- programs
  keeps_first_program : (paths : List (List ℕ)) → Keeps P o (first_program paths)
  keeps_first_program [] = keeps_pure None
  keeps_first_program (p ∷ ps) =
      bind (call (probe p)) _ (keeps_call (probe p) tt)
      (λ a. keeps_if (is_program (as_kind a)) (pure (Some p)) (first_program ps) (keeps_pure (Some p)) (keeps_first_program ps))

  pub keeps_find : (name : List ℕ) → Keeps P o (find_program name)
  keeps_find name = keeps_if (is_path name) (pure (Some name)) _ (keeps_pure (Some name)) (keeps_at (λ s. first_program (candidates s name)) (λ t. keeps_first_program (candidates t name)))

  -- `@`
  keeps_wait_subshell : (b : Started) → Keeps P o (wait_subshell b)
  keeps_wait_subshell (NoChild why) = keeps_status why
  keeps_wait_subshell (Child n) = keeps_waited_status n

  pub keeps_subshell : (slots : Slots) → AreAmong P slots → (body : Node cmd) → Keeps P o (subshell slots body)
  keeps_subshell slots w body = bind (start_shell slots body) wait_subshell (keeps_start_shell slots w body) keeps_wait_subshell

  -- `&`
  keeps_kept_child : (b : Started) → Keeps P o (kept_child b)
  keeps_kept_child (NoChild why) = keeps_status why
  keeps_kept_child (Child n) = keeps_change _

  pub keeps_background_with : (slots : Slots) → AreAmong P slots → (body : Node cmd) (h : Option ℕ) → Keeps P o (background_with slots body h)
  keeps_background_with slots w body None = keeps_status (codes "cannot open")
  keeps_background_with slots w body (Some h) =
      bind (start_shell (with_slot slots 0 (to_file h)) body) _ (keeps_start_shell (with_slot slots 0 (to_file h)) (among_file slots w 0 h) body)
      (λ child. next (say (close h)) (kept_child child) (keeps_say (close h) tt) (keeps_kept_child child))

  -- reading
  keeps_read_on : (again : List ℕ → Shell Got) → ((text : List ℕ) → Keeps P o (again text)) → (most : ℕ) (text : List ℕ) (bytes : Option (List ℕ)) → Keeps P o (read_on again most text bytes)
  keeps_read_on again k most text None = keeps_pure (got_all text (Some (codes "cannot read")))
  keeps_read_on again k most text (Some []) = keeps_pure (got_all text None)
  keeps_read_on again k most text (Some (b ∷ bs)) =
      keeps_if (nat_le (length (text ++ b ∷ bs)) most) (again (text ++ b ∷ bs)) _ (k (text ++ b ∷ bs))
      (keeps_pure (got_all (text ++ b ∷ bs) (Some (codes "too large"))))

  keeps_reading : (n most h : ℕ) (text : List ℕ) → Keeps P o (reading n most h text)
  keeps_reading zero most h text = keeps_pure (got_all text (Some (codes "too large")))
  keeps_reading (suc n) most h text = bind (call (read h)) _ (keeps_call (read h) tt) (λ a. keeps_read_on (reading n most h) (keeps_reading n most h) most text (as_bytes a))

  pub keeps_read_all : (most h : ℕ) → Keeps P o (read_all most h)
  keeps_read_all most h = keeps_reading (suc most) most h []

  -- backquotes
  keeps_back_child : (read_end write_end : ℕ) (b : Started) → Keeps P o (back_child read_end write_end b)
  keeps_back_child r w (NoChild why) =
      next (say (close w)) _ (keeps_say (close w) tt) (next (say (close r)) _ (keeps_say (close r) tt) (next (set_status why) _ (keeps_status why) (keeps_pure [])))
  keeps_back_child r w (Child n) =
      next (say (close w)) _ (keeps_say (close w) tt)
      (bind (read_all longest_output r) _ (keeps_read_all longest_output r)
      (λ out. next (say (close r)) _ (keeps_say (close r) tt)
      (bind (waited n) _ (keeps_waited n)
      (λ status. next (set_status (back_status out.why status)) _ (keeps_status (back_status out.why status))
      (keeps_from (λ s. pure (output_members s out.text)) (λ t. keeps_pure (output_members t out.text)))))))

  keeps_back_pipe : (slots : Slots) → AreAmong P slots → (body : Node cmd) (ends : Option (ℕ × ℕ)) → Keeps P o (back_pipe slots body ends)
  keeps_back_pipe slots v body None = next (set_status (codes "cannot pipe")) _ (keeps_status (codes "cannot pipe")) (keeps_pure [])
  keeps_back_pipe slots v body (Some (r, w)) =
      bind (start_shell (with_slot slots 1 (to_file w)) body) (back_child r w)
      (keeps_start_shell (with_slot slots 1 (to_file w)) (among_file slots v 1 w) body) (keeps_back_child r w)

  keeps_backquote : (slots : Slots) → AreAmong P slots → (body : Node cmd) → Keeps P o (backquote slots body)
  keeps_backquote slots w body = bind (call make_pipe) _ (keeps_call make_pipe tt) (λ a. keeps_back_pipe slots w body (as_pair a))

  pub keeps_back : (slots : Slots) → AreAmong P slots → (body : Node cmd) → Keeps P o (back_words slots body)
  keeps_back slots w body = bind (backquote slots body) _ (keeps_backquote slots w body) (λ t. keeps_pure _)

module _ (P : ℕ → Type 0) (o : Bool) (slots : Slots) (w : AreAmong P slots) where
  -- reports and runtime errors
  keeps_report : (text : List ℕ) → Keeps P o (report slots text)
  keeps_report text = keeps_say (write slots.errors (codes "rc: " ++ text ++ 10 ∷ [])) w.errors

  pub keeps_fails : {A : Type 0} (text : List ℕ) → Keeps P o (fails {A = A} slots text)
  keeps_fails text = next (runtime_error slots text) exits (next (report slots text) (set_status (codes "error")) (keeps_report text) (keeps_status (codes "error"))) keeps_exits

  keeps_one_name : (fits : List ℕ → Bool) (xs : List (List ℕ)) → Keeps P o (one_name slots fits xs)
  keeps_one_name fits [] = keeps_fails (codes "bad name")
  keeps_one_name fits (x ∷ []) = keeps_if (fits x) (pure x) (fails slots (codes "bad name")) (keeps_pure x) (keeps_fails (codes "bad name"))
  keeps_one_name fits (x ∷ y ∷ ys) = keeps_fails (codes "bad name")

  pub keeps_variable : (x : List Word) → Keeps P o (variable slots x)
  keeps_variable x = keeps_one_name is_name (word_texts x)

  -- values
  keeps_value : (x : List Word) → Keeps P o (value slots x)
  keeps_value x = bind (one_name slots is_readable (word_texts x)) _ (keeps_one_name is_readable (word_texts x)) (λ y. keeps_from (λ s. pure (dollar_value s y)) (λ t. keeps_pure (dollar_value t y)))

  pub keeps_value_words : (x : List Word) → Keeps P o (value_words slots x)
  keeps_value_words x = bind (value slots x) _ (keeps_value x) (λ v. keeps_pure (plain_words v))

  pub keeps_count_words : (x : List Word) → Keeps P o (count_words slots x)
  keeps_count_words x = bind (value slots x) _ (keeps_value x) (λ v. keeps_pure (plain_words (decimal (length v) ∷ [])))

  pub keeps_flat_words : (x : List Word) → Keeps P o (flat_words slots x)
  keeps_flat_words x = bind (value slots x) _ (keeps_value x) (λ v. keeps_pure _)

  pub keeps_selected_words : (x ss : List Word) → Keeps P o (selected_words slots x ss)
  keeps_selected_words x ss = bind (value slots x) _ (keeps_value x) (λ v. keeps_pure _)

  keeps_joined : (r : Result (List Word) ListFault) → Keeps P o (joined_lists slots r)
  keeps_joined (Ok ws) = keeps_pure ws
  keeps_joined (Err runtime_error) = keeps_fails (list_words runtime_error)

  pub keeps_concat : (a b : List Word) → Keeps P o (concat_words slots a b)
  keeps_concat a b = keeps_joined (concatenated a b)

  -- functions
  pub keeps_define : (xs : List (List ℕ)) (body : Node cmd) → Keeps P o (define_each slots xs body)
  keeps_define [] body = keeps_skip
  keeps_define (x ∷ xs) body =
      bind (one_name slots is_function_name (x ∷ [])) _ (keeps_one_name is_function_name (x ∷ []))
      (λ y. next (change (λ s. define s y body)) _ (keeps_change (λ s. define s y body)) (keeps_define xs body))

  -- programs
  keeps_refuse : (name why : List ℕ) → Keeps P o (refuse slots name why)
  keeps_refuse name why = next (report slots (name ++ codes ": " ++ why)) _ (keeps_report (name ++ codes ": " ++ why)) (keeps_status why)

  keeps_wait_started : (name : List ℕ) (b : Started) → Keeps P o (wait_started slots name b)
  keeps_wait_started name (NoChild why) = keeps_refuse name why
  keeps_wait_started name (Child n) = keeps_waited_status P o n

  keeps_found : (name : List ℕ) (args : List (List ℕ)) (path : Option (List ℕ)) → Keeps P o (run_found slots name args path)
  keeps_found name args None = keeps_refuse name (codes "not found")
  keeps_found name args (Some path) = keeps_from _ (λ t. bind _ (wait_started slots name) (keeps_start_program P o slots w path args t) (keeps_wait_started name))

  pub keeps_program : (name : List ℕ) (args : List (List ℕ)) → Keeps P o (run_program slots name args)
  keeps_program name args = bind (find_program name) (run_found slots name args) (keeps_find P o name) (keeps_found name args)

  -- files
  pub keeps_opened : (name : List ℕ) (h : Option ℕ) → Keeps P o (opened slots name h)
  keeps_opened name (Some h) = keeps_pure h
  keeps_opened name None = keeps_fails (cannot_open name)

module _ (P : ℕ → Type 0) (slots : Slots) (w : AreAmong P slots) where
  pub keeps_open_one : (mode : Mode) (names : List (List ℕ)) → Keeps P true (open_one slots mode names)
  keeps_open_one mode [] = keeps_fails P true slots w not_one_word
  keeps_open_one mode (name ∷ []) = bind (call (open_file name mode)) _ (keeps_call (open_file name mode) refl) (λ a. keeps_opened P true slots w name (as_file a))
  keeps_open_one mode (name ∷ other ∷ others) = keeps_fails P true slots w not_one_word

  pub keeps_open_here : (pieces : Many piece) → Keeps P true (open_here slots pieces)
  keeps_open_here pieces = keeps_from _ (λ t. bind (call (here (here_text t pieces))) _ (keeps_call (here (here_text t pieces)) refl) (λ a. keeps_opened P true slots w here_name (as_file a)))

  pub keeps_background : (body : Node cmd) → Keeps P true (background slots body)
  keeps_background body = bind (call (open_file (codes "/dev/null") Read)) _ (keeps_call (open_file (codes "/dev/null") Read) refl) (λ a. keeps_background_with P true slots w body (as_file a))
