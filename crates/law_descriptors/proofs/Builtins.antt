-- What the calls of pipelines and of the built-in commands are.
use Rattle.std.proofs.Common.{ℕ, List, [], ◌∷◌, ◌++◌, Option, Some, None, true, refl}
use Rattle.std.specs.Prelude.{codes, ◌==◌, drop}
use Rattle.std.specs.List.{list_any}
use Rattle.rc_model.specs.Syntax.Text.{spaced}
use Rattle.rc_model.specs.Syntax.Tree.{Node, Many, cmd, stage, none, more, Stage}
use Rattle.rc_model.specs.Mirrors.TreeOfText.{tree_of}
use Rattle.rc_model.specs.declared.call.Slots.{Slots}
use Rattle.rc_model.specs.declared.call.Mode.TheVariants.{Read}
use Rattle.rc_model.specs.Run.Numbers.{number_of}
use Rattle.rc_model.specs.Run.Calls.{to_file, with_slot, open_file, make_pipe, close, write, change_dir, as_file, as_pair, as_done}
use Rattle.rc_model.specs.Run.State.{value_of, set_value, with_status, function_of, drop_child}
use Rattle.rc_model.specs.Run.Shell.{Shell, ◌>>=◌, pure, call, say, change, exits}
use Rattle.rc_model.specs.Run.Acts.{set_status, close_end, candidates, run_program, waited, wait_each, read_all, longest_file, Started, Child}
use Rattle.rc_model.specs.Run.Acts.{NoChild, start_shell, LaunchedStages, Launched, NotLaunched, Running, Refused, stages_status, no_stages}
use Rattle.rc_model.specs.Run.Acts.{from_pipe, next_stage, stage_with, stages_from, launch_stages, settled, start_stages, end_stages, find_program}
use Rattle.rc_model.specs.declared.builtin.Builtin.{Builtin}
use Rattle.rc_model.specs.declared.builtin.Builtin.TheVariants.{Dot, BuiltinWord, Cd, Eval, Exec, Exit as ExitWord, Shift, Wait, Whatis}
use Rattle.rc_model.specs.Run.Builtins.{builtin_named, Called, Finished, Body, BodyWith, finished, usage, as_body, as_body_with, opened_or}
use Rattle.rc_model.specs.Run.Builtins.{open_first, whole_file, run_file, dot, first_dir, dirs_of, first_member, cd, exit_status, shifted, shift}
use Rattle.rc_model.specs.Run.Builtins.{wait_child, wait_all, wait_one, wait_numbered, wait_for, value_line, function_line, program_line, other_line}
use Rattle.rc_model.specs.Run.Builtins.{command_line, known_of, known_each, met, write_lines, whatis, exec, run_builtin, run_command}
use Rattle.rc_model.specs.Run.Builtins.{without_functions, run_named, run_words}
use Rattle.law_descriptors.specs.Covering.{AreAmong}
use Rattle.law_descriptors.proofs.Keeps.{Keeps, bind, next, keeps_pure, keeps_skip, keeps_exits, keeps_call, keeps_say, keeps_change, keeps_status, keeps_from, keeps_if, among_file, among_pipe}
use Rattle.law_descriptors.proofs.Acts.{keeps_fails, keeps_close_end, keeps_waited, keeps_wait_each, keeps_start_shell, keeps_find, keeps_program, keeps_read_all}

module _ (P : ℕ → Type 0) where
  -- the stages of a pipeline
  keeps_no_stages : (before : Option ℕ) (children : List ℕ) (why : List ℕ) → Keeps P true (no_stages before children why)
  keeps_no_stages before children why = next (close_end before) _ (keeps_close_end P true before) (keeps_pure (NotLaunched children why))

  keeps_next_stage : (go : Option ℕ → List ℕ → Shell LaunchedStages) → ((h : Option ℕ) (children : List ℕ) → Keeps P true (go h children))
      → (before : Option ℕ) (children : List ℕ) (r w : ℕ) (b : Started) → Keeps P true (next_stage go before children r w b)
  keeps_next_stage go k before children r w (Child n) = next (say (close w)) _ (keeps_say (close w) tt) (next (close_end before) _ (keeps_close_end P true before) (k (Some r) (children ++ n ∷ [])))
  keeps_next_stage go k before children r w (NoChild why) = next (say (close w)) _ (keeps_say (close w) tt) (next (say (close r)) _ (keeps_say (close r) tt) (keeps_no_stages before children why))

  keeps_stage_with : (go : Option ℕ → List ℕ → Shell LaunchedStages) → ((h : Option ℕ) (children : List ℕ) → Keeps P true (go h children))
      → (slots : Slots) → AreAmong P slots → (body : Node cmd) (slot : ℕ) (before : Option ℕ) (children : List ℕ) (ends : Option (ℕ × ℕ))
      → Keeps P true (stage_with go slots body slot before children ends)
  keeps_stage_with go k slots v body slot before children None = keeps_no_stages before children (codes "cannot pipe")
  keeps_stage_with go k slots v body slot before children (Some (r, w)) =
      let among = among_file (from_pipe before slots) (among_pipe slots v before) slot w in
      bind (start_shell (with_slot (from_pipe before slots) slot (to_file w)) body) _
      (keeps_start_shell P true (with_slot (from_pipe before slots) slot (to_file w)) among body) (keeps_next_stage go k before children r w)

  keeps_stages : (slots : Slots) → AreAmong P slots → (stages : Many stage) (before : Option ℕ) (children : List ℕ) → Keeps P true (stages_from slots stages before children)
  keeps_stages slots w none before children = keeps_pure (Launched before children)
  keeps_stages slots w (more (Stage body slot) rest) before children =
      bind (call make_pipe) _ (keeps_call make_pipe tt) (λ a. keeps_stage_with (stages_from slots rest) (keeps_stages slots w rest) slots w body slot before children (as_pair a))

  keeps_settled : (l : LaunchedStages) → Keeps P true (settled l)
  keeps_settled (Launched h children) = keeps_pure (Running h children)
  keeps_settled (NotLaunched children why) =
      bind (wait_each children) _ (keeps_wait_each P true children) (λ ts. next (set_status (stages_status (ts ++ why ∷ []))) _ (keeps_status (stages_status (ts ++ why ∷ []))) (keeps_pure Refused))

  pub keeps_start_stages : (slots : Slots) → AreAmong P slots → (stages : Many stage) → Keeps P true (start_stages slots stages)
  keeps_start_stages slots w stages = bind (launch_stages slots stages) settled (keeps_stages slots w stages None []) keeps_settled

  pub keeps_end_stages : (h : Option ℕ) (children : List ℕ) → Keeps P true (end_stages h children)
  keeps_end_stages h children =
      next (close_end h) _ (keeps_close_end P true h)
      (bind (wait_each children) _ (keeps_wait_each P true children) (λ ts. keeps_change (λ s. with_status s (stages_status (ts ++ s.status ∷ [])))))

  keeps_finished : (m : Shell (Unit {0})) → Keeps P true m → Keeps P true (finished m)
  keeps_finished m k = next m (pure Finished) k (keeps_pure Finished)

  keeps_ends : (text : List ℕ) → Keeps P true (finished (set_status text))
  keeps_ends text = keeps_finished (set_status text) (keeps_status text)

  keeps_usage : Keeps P true usage
  keeps_usage = keeps_ends (codes "usage")

  -- texts that are run
  keeps_body : (c : Option (Node cmd)) → Keeps P true (as_body c)
  keeps_body (Some c) = keeps_pure (Body c)
  keeps_body None = keeps_ends (codes "syntax error")

  keeps_body_with : (args : List (List ℕ)) (c : Option (Node cmd)) → Keeps P true (as_body_with args c)
  keeps_body_with args (Some c) = keeps_pure (BodyWith args c)
  keeps_body_with args None = keeps_ends (codes "syntax error")

  -- `.`
  keeps_or_open : (others : Shell (Option ℕ)) → Keeps P true others → (h : Option ℕ) → Keeps P true (opened_or others h)
  keeps_or_open others k (Some h) = keeps_pure (Some h)
  keeps_or_open others k None = k

  keeps_open_first : (paths : List (List ℕ)) → Keeps P true (open_first paths)
  keeps_open_first [] = keeps_pure None
  keeps_open_first (p ∷ ps) = bind (call (open_file p Read)) _ (keeps_call (open_file p Read) refl) (λ a. keeps_or_open (open_first ps) (keeps_open_first ps) (as_file a))

  keeps_whole_file : (args : List (List ℕ)) (text : List ℕ) (why : Option (List ℕ)) → Keeps P true (whole_file args text why)
  keeps_whole_file args text None = keeps_body_with args (tree_of text)
  keeps_whole_file args text (Some why) = keeps_ends why

  keeps_run_file : (args : List (List ℕ)) (h : Option ℕ) → Keeps P true (run_file args h)
  keeps_run_file args None = keeps_ends (codes "cannot open")
  keeps_run_file args (Some h) =
      bind (read_all longest_file h) _ (keeps_read_all P true longest_file h)
      (λ out. next (say (close h)) _ (keeps_say (close h) tt) (keeps_whole_file args out.text out.why))

  keeps_dot : (args : List (List ℕ)) → Keeps P true (dot args)
  keeps_dot [] = keeps_usage
  keeps_dot (file ∷ args) = keeps_from _ (λ t. bind (open_first (candidates t file)) (run_file args) (keeps_open_first (candidates t file)) (keeps_run_file args))

  -- `cd`
  keeps_first_dir : (dirs : List (List ℕ)) → Keeps P true (first_dir dirs)
  keeps_first_dir [] = keeps_status (codes "cannot cd")
  keeps_first_dir (d ∷ ds) = bind (call (change_dir d)) _ (keeps_call (change_dir d) tt) (λ a. keeps_if (as_done a) (set_status []) (first_dir ds) (keeps_status []) (keeps_first_dir ds))

  keeps_cd : (args : List (List ℕ)) → Keeps P true (cd args)
  keeps_cd [] = keeps_from (λ s. finished (first_dir (dirs_of s (first_member (value_of s (codes "home")))))) (λ t. keeps_finished (first_dir _) (keeps_first_dir _))
  keeps_cd (dir ∷ []) = keeps_from (λ s. finished (first_dir (dirs_of s (dir ∷ [])))) (λ t. keeps_finished (first_dir _) (keeps_first_dir _))
  keeps_cd (dir ∷ other ∷ others) = keeps_usage

  -- `exit` and `shift`
  keeps_exit_status : (args : List (List ℕ)) → Keeps P true (exit_status args)
  keeps_exit_status [] = keeps_skip
  keeps_exit_status (w ∷ ws) = keeps_status (spaced (w ∷ ws))

  keeps_shifted : (n : Option ℕ) → Keeps P true (shifted n)
  keeps_shifted None = keeps_usage
  keeps_shifted (Some n) = keeps_finished _ (keeps_change (λ s. record (set_value s (codes "*") (drop n (value_of s (codes "*")))) { status = [] }))

  keeps_shift : (args : List (List ℕ)) → Keeps P true (shift args)
  keeps_shift [] = keeps_shifted (Some 1)
  keeps_shift (n ∷ []) = keeps_shifted (number_of n)
  keeps_shift (n ∷ m ∷ ms) = keeps_usage

  -- `wait`
  keeps_wait_child : (n : ℕ) → Keeps P true (wait_child n)
  keeps_wait_child n = next (change (λ s. drop_child s n)) _ (keeps_change (λ s. drop_child s n)) (bind (waited n) set_status (keeps_waited P true n) keeps_status)

  keeps_wait_all : (ns : List ℕ) → Keeps P true (wait_all ns)
  keeps_wait_all [] = keeps_skip
  keeps_wait_all (n ∷ ns) = next (wait_child n) _ (keeps_wait_child n) (keeps_wait_all ns)

  keeps_wait_numbered : (n : Option ℕ) → Keeps P true (wait_numbered n)
  keeps_wait_numbered None = keeps_usage
  keeps_wait_numbered (Some n) =
      keeps_from (λ s. finished (wait_one n s))
      (λ t. keeps_finished (wait_one n t)
      (keeps_if (list_any (λ m. m == n) t.background) (wait_child n) (set_status (codes "no such child")) (keeps_wait_child n) (keeps_status (codes "no such child"))))

  keeps_wait_for : (args : List (List ℕ)) → Keeps P true (wait_for args)
  keeps_wait_for [] = next (set_status []) _ (keeps_status []) (keeps_from (λ s. finished (wait_all s.background)) (λ t. keeps_finished (wait_all t.background) (keeps_wait_all t.background)))
  keeps_wait_for (n ∷ []) = keeps_wait_numbered (number_of n)
  keeps_wait_for (n ∷ m ∷ ms) = keeps_usage

  -- `whatis`
  keeps_other_line : (name shown : List ℕ) → Keeps P true (other_line name shown)
  keeps_other_line name [] = bind (find_program name) _ (keeps_find P true name) (λ p. keeps_pure (program_line p))
  keeps_other_line name (b ∷ bs) = keeps_pure ([], None)

  keeps_command_line : (name shown : List ℕ) (c : Option (Node cmd)) (b : Option Builtin) → Keeps P true (command_line name shown c b)
  keeps_command_line name shown (Some body) b = keeps_pure (function_line name body)
  keeps_command_line name shown None (Some b) = keeps_pure _
  keeps_command_line name shown None None = keeps_other_line name shown

  keeps_known : (name : List ℕ) → Keeps P true (known_of name)
  keeps_known name =
      keeps_from (λ s. command_line name (value_line name (value_of s name)) (function_of s name) (builtin_named name) >>= λ k. pure (value_line name (value_of s name) ++ k.0, k.1))
      (λ t. bind (command_line name (value_line name (value_of t name)) (function_of t name) (builtin_named name)) (λ k. pure (value_line name (value_of t name) ++ k.0, k.1))
      (keeps_command_line name (value_line name (value_of t name)) (function_of t name) (builtin_named name)) (λ k. keeps_pure (value_line name (value_of t name) ++ k.0, k.1)))

  keeps_known_each : (names : List (List ℕ)) → Keeps P true (known_each names)
  keeps_known_each [] = keeps_pure ([], None)
  keeps_known_each (name ∷ names) = bind (known_of name) _ (keeps_known name) (λ first. bind (known_each names) _ (keeps_known_each names) (λ others. keeps_pure _))

module _ (P : ℕ → Type 0) (slots : Slots) (w : AreAmong P slots) where
  keeps_write_lines : (text : List ℕ) (status : Option (List ℕ)) → Keeps P true (write_lines slots text status)
  keeps_write_lines [] status = keeps_status (met status)
  keeps_write_lines (b ∷ bs) status = bind (call (write slots.output (b ∷ bs))) _ (keeps_call (write slots.output (b ∷ bs)) w.output) (λ a. keeps_status _)

  keeps_whatis : (names : List (List ℕ)) → Keeps P true (whatis slots names)
  keeps_whatis names = bind (known_each names) _ (keeps_known_each P names) (λ k. keeps_finished P (write_lines slots k.0 k.1) (keeps_write_lines k.0 k.1))

  -- `exec`
  keeps_exec : (args : List (List ℕ)) → Keeps P true (exec slots args)
  keeps_exec [] = keeps_usage P
  keeps_exec (name ∷ args) = next (run_program slots name args) exits (keeps_program P true slots w name args) keeps_exits

  -- the words of a simple command
  keeps_builtin : (again : Shell Called) → Keeps P true again → (b : Builtin) (args : List (List ℕ)) → Keeps P true (run_builtin again slots b args)
  keeps_builtin again k Dot args = keeps_dot P args
  keeps_builtin again k BuiltinWord args = k
  keeps_builtin again k Cd args = keeps_cd P args
  keeps_builtin again k Eval args = keeps_body P (tree_of (spaced args))
  keeps_builtin again k Exec args = keeps_exec args
  keeps_builtin again k ExitWord args = next (exit_status args) exits (keeps_exit_status P args) keeps_exits
  keeps_builtin again k Shift args = keeps_shift P args
  keeps_builtin again k Wait args = keeps_wait_for P args
  keeps_builtin again k Whatis args = keeps_whatis args

  keeps_command : (again : Shell Called) → Keeps P true again → (name : List ℕ) (args : List (List ℕ)) (b : Option Builtin) → Keeps P true (run_command again slots name args b)
  keeps_command again k name args (Some b) = keeps_builtin again k b args
  keeps_command again k name args None = keeps_finished P (run_program slots name args) (keeps_program P true slots w name args)

  keeps_without : (words : List (List ℕ)) → Keeps P true (without_functions slots words)
  keeps_without [] = keeps_usage P
  keeps_without (name ∷ args) = keeps_command (without_functions slots args) (keeps_without args) name args (builtin_named name)

  keeps_named : (name : List ℕ) (args : List (List ℕ)) (c : Option (Node cmd)) → Keeps P true (run_named slots name args c)
  keeps_named name args (Some body) = keeps_pure (BodyWith args body)
  keeps_named name args None = keeps_without (name ∷ args)

  pub keeps_words : (words : List (List ℕ)) → Keeps P true (run_words slots words)
  keeps_words [] = keeps_fails P true slots w (codes "empty argument list")
  keeps_words (name ∷ args) = keeps_from (λ s. run_named slots name args (function_of s name)) (λ t. keeps_named name args (function_of t name))
