-- What names, values, file names, programs and children keep.
use Rattle.std.proofs.Common.{◌≡◌, ℕ, zero, suc, List, [], ◌∷◌, ◌++◌, Option, Some, None, Bool, true, false, refl, sym, subst}
use Rattle.std.specs.Prelude.{Ok, Err, if◌then◌else◌, codes, length, nat_le}
use Rattle.std.specs.Prelude.{Result as Joined}
use Rattle.std.specs.List.{list_any}
use Rattle.std.specs.Fmt.{decimal}
use Rattle.rc_model.specs.Syntax.Words.{Word, word_text, word_texts, plain_words, has_pattern}
use Rattle.rc_model.specs.Syntax.Tree.{Node, Many, cmd, piece}
use Rattle.rc_model.specs.declared.call.Slots.{Slots}
use Rattle.rc_model.specs.declared.call.Mode.{Mode}
use Rattle.rc_model.specs.declared.call.Mode.TheVariants.{Read}
use Rattle.rc_model.specs.Run.Calls.{to_file, with_slot, Launch, open_file, here, make_pipe, close, read, write, start, wait, list_names, probe}
use Rattle.rc_model.specs.Run.Calls.{as_file, as_pair, as_bytes, as_kind, as_child, as_names}
use Rattle.rc_model.specs.Run.Lists.{concatenated, list_words}
use Rattle.rc_model.specs.Run.State.{State, dollar_value, is_name, is_readable, is_function_name, define, add_child}
use Rattle.rc_model.specs.Run.Plans.{Plan}
use Rattle.rc_model.specs.Run.Shell.{Shell, ShellResult, under, leaves, ◌>>=◌, pure, call, say, change, exits}
use Rattle.rc_model.specs.Run.FileNames.{components, directory, fitting_names, each_name, if_there, listed, step, walk, paths_of, or_itself, names_of, expanded_word, expanded}
use Rattle.rc_model.specs.Run.Acts.{set_status, report, runtime_error, fails, close_end, one_name, variable, value, value_words, count_words}
use Rattle.rc_model.specs.Run.Acts.{flat_words, selected_words, joined_lists, concat_words, define_each, opened, open_one, here_text, open_here}
use Rattle.rc_model.specs.Run.Acts.{is_path, candidates, is_program, first_program, find_program, waited, wait_each, Started, Child, NoChild}
use Rattle.rc_model.specs.Run.Acts.{as_started, ask_start, start_shell, refuse, wait_started, run_found, run_program, wait_subshell, subshell}
use Rattle.rc_model.specs.Run.Acts.{kept_child, background_with, background, Got, got_all, read_on, reading, read_all, longest_output, output_members}
use Rattle.rc_model.specs.Run.Acts.{back_status, back_child, back_pipe, backquote, back_words}
use Rattle.rc_model.specs.Handed.Image.{is_fit, program_launch, shell_launch}
use Rattle.rc_model.specs.Handed.Proper.{IsProperTree, IsProper}
use Rattle.rc_model.specs.Handed.Started.{Starts, a_subshell, a_job, a_backquote}
use Rattle.law_image.proofs.Proper.{proper_set, proper_define, proper_same}
use Rattle.law_image.proofs.Handed.{launch_reads_back}
use Rattle.law_handed.proofs.Safe.{Safe, EndsSo, StartsNoShell, alone, Gives, Keeps, bind_so, bind, next, gives_pure, keeps_pure, keeps_skip}
use Rattle.law_handed.proofs.Safe.{gives_exits, keeps_call, keeps_say, keeps_change, keeps_status, gives_from, gives_at, gives_if}
use Rattle.rc_model.specs.declared.fault.ListFault.{ListFault}
use Rattle.rc_model.specs.Run.Acts.{cannot_open, here_name, not_one_word}

-- reports and runtime errors
pub keeps_report : (slots : Slots) (text : List ℕ) → Keeps (report slots text)
keeps_report slots text = keeps_say (write slots.errors (codes "rc: " ++ text ++ 10 ∷ [])) tt

pub gives_fails : {A : Type 0} {Q : A → Type 0} (slots : Slots) (text : List ℕ) → Gives Q (fails {A = A} slots text)
gives_fails slots text = next (runtime_error slots text) exits (next (report slots text) (set_status (codes "error")) (keeps_report slots text) (keeps_status (codes "error"))) gives_exits

pub keeps_close_end : (h : Option ℕ) → Keeps (close_end h)
keeps_close_end None = record { by = λ s p. (tt, p) }
keeps_close_end (Some h) = record { by = λ s p. (tt, λ x. (tt, p)) }

-- a name is of its kind
abbrev Fits : (List ℕ → Bool) → List ℕ → Type 0
Fits fits x = fits x ≡ true

gives_fitting : (slots : Slots) (fits : List ℕ → Bool) (x : List ℕ) (t : Bool) → fits x ≡ t → Gives (Fits fits) (if t then pure x else fails slots (codes "bad name"))
gives_fitting slots fits x true e = gives_pure x e
gives_fitting slots fits x false e = gives_fails slots (codes "bad name")

gives_one_name : (slots : Slots) (fits : List ℕ → Bool) (xs : List (List ℕ)) → Gives (Fits fits) (one_name slots fits xs)
gives_one_name slots fits [] = gives_fails slots (codes "bad name")
gives_one_name slots fits (x ∷ []) = gives_fitting slots fits x (fits x) refl
gives_one_name slots fits (x ∷ y ∷ ys) = gives_fails slots (codes "bad name")

pub gives_variable : (slots : Slots) (x : List Word) → Gives (λ y. is_name y ≡ true) (variable slots x)
gives_variable slots x = gives_one_name slots is_name (word_texts x)

-- values
keeps_value : (slots : Slots) (x : List Word) → Keeps (value slots x)
keeps_value slots x =
    bind_so (one_name slots is_readable (word_texts x)) _ (gives_one_name slots is_readable (word_texts x))
    (λ y h. gives_from (λ s. pure (dollar_value s y)) (λ t p. keeps_pure (dollar_value t y)))

pub keeps_value_words : (slots : Slots) (x : List Word) → Keeps (value_words slots x)
keeps_value_words slots x = bind (value slots x) _ (keeps_value slots x) (λ v. keeps_pure (plain_words v))

pub keeps_count_words : (slots : Slots) (x : List Word) → Keeps (count_words slots x)
keeps_count_words slots x = bind (value slots x) _ (keeps_value slots x) (λ v. keeps_pure (plain_words (decimal (length v) ∷ [])))

pub keeps_flat_words : (slots : Slots) (x : List Word) → Keeps (flat_words slots x)
keeps_flat_words slots x = bind (value slots x) _ (keeps_value slots x) (λ v. keeps_pure _)

pub keeps_selected_words : (slots : Slots) (x ss : List Word) → Keeps (selected_words slots x ss)
keeps_selected_words slots x ss = bind (value slots x) _ (keeps_value slots x) (λ v. keeps_pure _)

keeps_joined : (slots : Slots) (r : Joined (List Word) ListFault) → Keeps (joined_lists slots r)
keeps_joined slots (Ok ws) = keeps_pure ws
keeps_joined slots (Err runtime_error) = gives_fails slots (list_words runtime_error)

pub keeps_concat : (slots : Slots) (a b : List Word) → Keeps (concat_words slots a b)
keeps_concat slots a b = keeps_joined slots (concatenated a b)

-- functions
pub keeps_define : (slots : Slots) (xs : List (List ℕ)) (body : Node cmd) → IsProperTree body → Keeps (define_each slots xs body)
keeps_define slots [] body b = keeps_skip
keeps_define slots (x ∷ xs) body b =
    bind_so (one_name slots is_function_name (x ∷ [])) _ (gives_one_name slots is_function_name (x ∷ []))
    (λ y h. next (change (λ s. define s y body)) _ (keeps_change (λ s. define s y body) (λ s p. proper_define s y body h b p)) (keeps_define slots xs body b))

-- files
keeps_opened : (slots : Slots) (name : List ℕ) (o : Option ℕ) → Keeps (opened slots name o)
keeps_opened slots name (Some h) = keeps_pure h
keeps_opened slots name None = gives_fails slots (cannot_open name)

pub keeps_open_one : (slots : Slots) (mode : Mode) (names : List (List ℕ)) → Keeps (open_one slots mode names)
keeps_open_one slots mode [] = gives_fails slots not_one_word
keeps_open_one slots mode (name ∷ []) = bind (call (open_file name mode)) _ (keeps_call (open_file name mode) tt) (λ a. keeps_opened slots name (as_file a))
keeps_open_one slots mode (name ∷ other ∷ others) = gives_fails slots not_one_word

pub keeps_open_here : (slots : Slots) (pieces : Many piece) → Keeps (open_here slots pieces)
keeps_open_here slots pieces = gives_from _ (λ t p. bind (call (here (here_text t pieces))) _ (keeps_call (here (here_text t pieces)) tt) (λ a. keeps_opened slots here_name (as_file a)))

-- file names
keeps_each_name : (go : List ℕ → Shell (List (List ℕ))) → ((path : List ℕ) → Keeps (go path)) → (path : List ℕ) (names : List (List ℕ)) → Keeps (each_name go path names)
keeps_each_name go k path [] = keeps_pure []
keeps_each_name go k path (n ∷ ns) = bind (go (path ++ n)) _ (k (path ++ n)) (λ first. bind (each_name go path ns) _ (keeps_each_name go k path ns) (λ others. keeps_pure (first ++ others)))

keeps_step : (c : Word) (go : List ℕ → Shell (List (List ℕ))) → ((path : List ℕ) → Keeps (go path)) → (path : List ℕ) → Keeps (step c go path)
keeps_step c go k path = gives_if (has_pattern c) (listed c go path) (go (path ++ word_text c))
    (bind (call (list_names (directory path))) _ (keeps_call (list_names (directory path)) tt) (λ a. keeps_each_name go k path (fitting_names c (as_names a)))) (k (path ++ word_text c))

keeps_if_there : (path : List ℕ) → Keeps (if_there path)
keeps_if_there path = bind (call (probe path)) _ (keeps_call (probe path) tt) (λ a. keeps_pure _)

keeps_walk : (cs : List Word) (path : List ℕ) → Keeps (walk cs path)
keeps_walk [] path = keeps_pure (path ∷ [])
keeps_walk (c ∷ cs) path = gives_if (list_any has_pattern (c ∷ cs)) _ _ (keeps_step c (walk cs) (keeps_walk cs) (path ++ codes "/")) (keeps_if_there _)

keeps_paths : (cs : List Word) → Keeps (paths_of cs)
keeps_paths [] = keeps_pure []
keeps_paths (c ∷ cs) = keeps_step c (walk cs) (keeps_walk cs) []

keeps_expanded_word : (w : Word) → Keeps (expanded_word w)
keeps_expanded_word w = gives_if (has_pattern w) (names_of w) (pure (w ∷ [])) (bind (paths_of (components w)) _ (keeps_paths (components w)) (λ p. keeps_pure (or_itself w p))) (keeps_pure (w ∷ []))

pub keeps_expanded : (ws : List Word) → Keeps (expanded ws)
keeps_expanded [] = keeps_pure []
keeps_expanded (w ∷ ws) = bind (expanded_word w) _ (keeps_expanded_word w) (λ first. bind (expanded ws) _ (keeps_expanded ws) (λ others. keeps_pure (first ++ others)))

-- waits
pub keeps_waited : (n : ℕ) → Keeps (waited n)
keeps_waited n = bind (call (wait n)) _ (keeps_call (wait n) tt) (λ a. keeps_pure _)

pub keeps_wait_each : (ns : List ℕ) → Keeps (wait_each ns)
keeps_wait_each [] = keeps_pure []
keeps_wait_each (n ∷ ns) = bind (waited n) _ (keeps_waited n) (λ first. bind (wait_each ns) _ (keeps_wait_each ns) (λ others. keeps_pure (first ∷ others)))

keeps_waited_status : (n : ℕ) → Keeps (waited n >>= set_status)
keeps_waited_status n = bind (waited n) set_status (keeps_waited n) keeps_status

-- programs are started where the launch fits
keeps_started : (l : Launch) (t : Bool) → StartsNoShell (start l) → Keeps (if t then ask_start l else pure (NoChild (codes "too large")))
keeps_started l true h = bind (call (start l)) _ (keeps_call (start l) h) (λ a. keeps_pure (as_started (as_child a)))
keeps_started l false h = keeps_pure (NoChild (codes "too large"))

-- shells are started by a rule, where the launch fits
abbrev with_child : {A : Type 0} → Launch → (Started → Shell A) → State → Bool → Plan (ShellResult A)
with_child l f s t = under ((if t then ask_start l else pure (NoChild (codes "too large"))) s) f leaves

started_by : {A : Type 0} {Q : A → Type 0} (slots : Slots) (body : Node cmd) (f : Started → Shell A) (s : State) (t : Bool)
    → is_fit (shell_launch slots body s) ≡ t → IsProperTree body → IsProper s → ((x : Started) → Gives Q (f x))
    → Starts (ShellResult A) (with_child (shell_launch slots body s) f s (is_fit (shell_launch slots body s))) slots body s → Safe (with_child (shell_launch slots body s) f s t) (EndsSo Q)
started_by {A = A} slots body f s true e b p kf at = (
  record {
    body = body;
    state = s;
    starts = subst (λ z. Starts (ShellResult A) (with_child (shell_launch slots body s) f s z) slots body s) e at;
    is = refl;
    fits = e;
    tree = b;
    proper = p;
    back = launch_reads_back body s b p e;
  },
  λ x. (kf (as_started (as_child x))).by s p,
)
started_by slots body f s false e b p kf at = (kf (NoChild (codes "too large"))).by s p

pub gives_shell : {A : Type 0} {Q : A → Type 0} (slots : Slots) (body : Node cmd) (f : Started → Shell A) → IsProperTree body → ((x : Started) → Gives Q (f x))
    → ((t : State) → Starts (ShellResult A) (under (start_shell slots body t) f leaves) slots body t) → Gives Q (λ s. under (start_shell slots body s) f leaves)
gives_shell slots body f b kf at = record { by = λ s p. started_by slots body f s (is_fit (shell_launch slots body s)) refl b p kf (at s) }

-- programs
keeps_first_program : (paths : List (List ℕ)) → Keeps (first_program paths)
keeps_first_program [] = keeps_pure None
keeps_first_program (p ∷ ps) =
    bind (call (probe p)) _ (keeps_call (probe p) tt)
    (λ a. gives_if (is_program (as_kind a)) (pure (Some p)) (first_program ps) (keeps_pure (Some p)) (keeps_first_program ps))

pub keeps_find : (name : List ℕ) → Keeps (find_program name)
keeps_find name = gives_if (is_path name) (pure (Some name)) _ (keeps_pure (Some name)) (gives_at (λ s. first_program (candidates s name)) (λ t p. keeps_first_program (candidates t name)))

keeps_refuse : (slots : Slots) (name why : List ℕ) → Keeps (refuse slots name why)
keeps_refuse slots name why = next (report slots (name ++ codes ": " ++ why)) _ (keeps_report slots (name ++ codes ": " ++ why)) (keeps_status why)

keeps_wait_started : (slots : Slots) (name : List ℕ) (b : Started) → Keeps (wait_started slots name b)
keeps_wait_started slots name (NoChild why) = keeps_refuse slots name why
keeps_wait_started slots name (Child n) = keeps_waited_status n

keeps_found : (slots : Slots) (name : List ℕ) (args : List (List ℕ)) (o : Option (List ℕ)) → Keeps (run_found slots name args o)
keeps_found slots name args None = keeps_refuse slots name (codes "not found")
keeps_found slots name args (Some path) =
    gives_from _ (λ t p. bind _ (wait_started slots name) (keeps_started (program_launch slots path args t) (is_fit (program_launch slots path args t)) tt) (keeps_wait_started slots name))

pub keeps_program : (slots : Slots) (name : List ℕ) (args : List (List ℕ)) → Keeps (run_program slots name args)
keeps_program slots name args = bind (find_program name) (run_found slots name args) (keeps_find name) (keeps_found slots name args)

-- `@`
keeps_wait_subshell : (b : Started) → Keeps (wait_subshell b)
keeps_wait_subshell (NoChild why) = keeps_status why
keeps_wait_subshell (Child n) = keeps_waited_status n

pub keeps_subshell : (slots : Slots) (body : Node cmd) → IsProperTree body → Keeps (subshell slots body)
keeps_subshell slots body b = gives_shell slots body wait_subshell b keeps_wait_subshell (λ t. a_subshell pure leaves (sym (alone (subshell slots body t))))

-- `&`
keeps_kept_child : (b : Started) → Keeps (kept_child b)
keeps_kept_child (NoChild why) = keeps_status why
keeps_kept_child (Child n) = keeps_change _ (λ s p. proper_set (add_child s n) (codes "apid") (decimal n ∷ []) refl (proper_same s (add_child s n) refl refl p))

keeps_background_with : (slots : Slots) (body : Node cmd) → IsProperTree body → (o : Option ℕ) → Keeps (background_with slots body o)
keeps_background_with slots body b None = keeps_status (codes "cannot open")
keeps_background_with slots body b (Some h) =
    gives_shell (with_slot slots 0 (to_file h)) body _ b (λ child. next (say (close h)) (kept_child child) (keeps_say (close h) tt) (keeps_kept_child child))
    (λ t. a_job slots h pure leaves (sym (alone (background_with slots body (Some h) t))) refl)

pub keeps_background : (slots : Slots) (body : Node cmd) → IsProperTree body → Keeps (background slots body)
keeps_background slots body b = bind (call (open_file (codes "/dev/null") Read)) _ (keeps_call (open_file (codes "/dev/null") Read) tt) (λ a. keeps_background_with slots body b (as_file a))

-- reading
keeps_read_on : (again : List ℕ → Shell Got) → ((text : List ℕ) → Keeps (again text)) → (most : ℕ) (text : List ℕ) (o : Option (List ℕ)) → Keeps (read_on again most text o)
keeps_read_on again k most text None = keeps_pure (got_all text (Some (codes "cannot read")))
keeps_read_on again k most text (Some []) = keeps_pure (got_all text None)
keeps_read_on again k most text (Some (b ∷ bs)) =
    gives_if (nat_le (length (text ++ b ∷ bs)) most) (again (text ++ b ∷ bs)) _ (k (text ++ b ∷ bs))
    (keeps_pure (got_all (text ++ b ∷ bs) (Some (codes "too large"))))

keeps_reading : (n most h : ℕ) (text : List ℕ) → Keeps (reading n most h text)
keeps_reading zero most h text = keeps_pure (got_all text (Some (codes "too large")))
keeps_reading (suc n) most h text = bind (call (read h)) _ (keeps_call (read h) tt) (λ a. keeps_read_on (reading n most h) (keeps_reading n most h) most text (as_bytes a))

pub keeps_read_all : (most h : ℕ) → Keeps (read_all most h)
keeps_read_all most h = keeps_reading (suc most) most h []

-- backquotes
keeps_back_child : (read_end write_end : ℕ) (b : Started) → Keeps (back_child read_end write_end b)
keeps_back_child r w (NoChild why) =
    next (say (close w)) _ (keeps_say (close w) tt) (next (say (close r)) _ (keeps_say (close r) tt) (next (set_status why) _ (keeps_status why) (keeps_pure [])))
keeps_back_child r w (Child n) =
    next (say (close w)) _ (keeps_say (close w) tt)
    (bind (read_all longest_output r) _ (keeps_read_all longest_output r)
    (λ out. next (say (close r)) _ (keeps_say (close r) tt)
    (bind (waited n) _ (keeps_waited n)
    (λ status. next (set_status (back_status out.why status)) _ (keeps_status (back_status out.why status))
    (gives_from (λ s. pure (output_members s out.text)) (λ t p. keeps_pure (output_members t out.text)))))))

keeps_back_pipe : (slots : Slots) (body : Node cmd) → IsProperTree body → (o : Option (ℕ × ℕ)) → Keeps (back_pipe slots body o)
keeps_back_pipe slots body b None = next (set_status (codes "cannot pipe")) _ (keeps_status (codes "cannot pipe")) (keeps_pure [])
keeps_back_pipe slots body b (Some (r, w)) =
    gives_shell (with_slot slots 1 (to_file w)) body (back_child r w) b (keeps_back_child r w) (λ t. a_backquote slots r w pure leaves (sym (alone (back_pipe slots body (Some (r, w)) t))) refl)

keeps_backquote : (slots : Slots) (body : Node cmd) → IsProperTree body → Keeps (backquote slots body)
keeps_backquote slots body b = bind (call make_pipe) _ (keeps_call make_pipe tt) (λ a. keeps_back_pipe slots body b (as_pair a))

pub keeps_back : (slots : Slots) (body : Node cmd) → IsProperTree body → Keeps (back_words slots body)
keeps_back slots body b = bind (backquote slots body) _ (keeps_backquote slots body b) (λ t. keeps_pure _)
