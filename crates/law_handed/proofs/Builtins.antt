-- What pipelines and the built-in commands keep, and which bodies they call.
use Rattle.std.proofs.Common.{◌≡◌, ℕ, List, [], ◌∷◌, ◌++◌, Option, Some, None, Bool, true, false, refl, sym, subst}
use Rattle.std.specs.Prelude.{if◌then◌else◌, codes, ◌==◌, drop}
use Rattle.std.specs.List.{list_any}
use Rattle.std.specs.Str.{bytes_eq}
use Rattle.std.specs.Map.{lookup}
use Rattle.rc_model.specs.Syntax.Text.{spaced}
use Rattle.rc_model.specs.Syntax.Tree.{Node, Many, cmd, stage, none, more, Stage}
use Rattle.rc_model.specs.Syntax.WellFormed.{is_output}
use Rattle.rc_model.specs.Mirrors.TreeOfText.{tree_of}
use Rattle.rc_model.specs.declared.call.Slots.{Slots}
use Rattle.rc_model.specs.declared.call.Mode.TheVariants.{Read}
use Rattle.rc_model.specs.Run.Numbers.{number_of}
use Rattle.rc_model.specs.Run.Calls.{to_file, with_slot, open_file, make_pipe, close, write, change_dir, as_file, as_pair, as_done}
use Rattle.rc_model.specs.Run.State.{State, value_of, set_value, with_status, function_of, drop_child}
use Rattle.rc_model.specs.Run.Shell.{Shell, leaves, ◌>>=◌, pure, call, say, change, exits}
use Rattle.rc_model.specs.Run.Acts.{set_status, close_end, candidates, run_program, waited, wait_each, read_all, longest_file, Started, Child}
use Rattle.rc_model.specs.Run.Acts.{NoChild, LaunchedStages, Launched, NotLaunched, Running, Refused, stages_status, no_stages, from_pipe, next_stage}
use Rattle.rc_model.specs.Run.Acts.{stage_with, stages_from, launch_stages, settled, start_stages, end_stages, find_program}
use Rattle.rc_model.specs.declared.builtin.Builtin.{Builtin}
use Rattle.rc_model.specs.declared.builtin.Builtin.TheVariants.{Dot, BuiltinWord, Cd, Eval, Exec, Exit as ExitWord, Shift, Wait, Whatis}
use Rattle.rc_model.specs.Run.Builtins.{builtin_named, Called, Finished, Body, BodyWith, finished, usage, as_body, as_body_with, opened_or}
use Rattle.rc_model.specs.Run.Builtins.{open_first, whole_file, run_file, dot, first_dir, dirs_of, first_member, cd, exit_status, shifted, shift}
use Rattle.rc_model.specs.Run.Builtins.{wait_child, wait_all, wait_one, wait_numbered, wait_for, Known, value_line, function_line, program_line}
use Rattle.rc_model.specs.Run.Builtins.{other_line, command_line, known_of, known_each, met, write_lines, whatis, exec, run_builtin, run_command}
use Rattle.rc_model.specs.Run.Builtins.{without_functions, run_named, run_words}
use Rattle.rc_model.specs.Handed.Proper.{IsProperTree, AllProperTrees}
use Rattle.law_image.proofs.Proper.{proper_set, proper_same}
use Rattle.law_syntax.proofs.Found.{finds_the_tree}
use Rattle.law_handed.proofs.Characters.{accepted_are_scripts}
use Rattle.law_handed.proofs.Parts.{AreParts, without_first, one_many, script_of}
use Rattle.rc_model.specs.Handed.Started.{a_stage}
use Rattle.law_handed.proofs.Safe.{alone, Gives, Keeps, bind, next, gives_pure, keeps_pure, keeps_skip, gives_exits, keeps_call, keeps_say}
use Rattle.law_handed.proofs.Safe.{keeps_change, keeps_other, keeps_status, gives_from, gives_if}
use Rattle.law_handed.proofs.Acts.{gives_fails, keeps_close_end, keeps_waited, keeps_wait_each, gives_shell, keeps_find, keeps_program, keeps_read_all}

-- the stages of a pipeline
keeps_no_stages : (before : Option ℕ) (children : List ℕ) (why : List ℕ) → Keeps (no_stages before children why)
keeps_no_stages before children why = next (close_end before) _ (keeps_close_end before) (keeps_pure (NotLaunched children why))

keeps_next_stage : (go : Option ℕ → List ℕ → Shell LaunchedStages) → ((h : Option ℕ) (children : List ℕ) → Keeps (go h children))
    → (before : Option ℕ) (children : List ℕ) (r w : ℕ) (b : Started) → Keeps (next_stage go before children r w b)
keeps_next_stage go k before children r w (Child n) = next (say (close w)) _ (keeps_say (close w) tt) (next (close_end before) _ (keeps_close_end before) (k (Some r) (children ++ n ∷ [])))
keeps_next_stage go k before children r w (NoChild why) = next (say (close w)) _ (keeps_say (close w) tt) (next (say (close r)) _ (keeps_say (close r) tt) (keeps_no_stages before children why))

keeps_stage_with : (slots : Slots) (others : Many stage) → ((h : Option ℕ) (children : List ℕ) → Keeps (stages_from slots others h children))
    → (body : Node cmd) → IsProperTree body → (slot : ℕ) (before : Option ℕ) (children : List ℕ) (o : Option (ℕ × ℕ))
    → Keeps (stage_with (stages_from slots others) slots body slot before children o)
keeps_stage_with slots others k body b slot before children None = keeps_no_stages before children (codes "cannot pipe")
keeps_stage_with slots others k body b slot before children (Some (r, w)) =
    gives_shell (with_slot (from_pipe before slots) slot (to_file w)) body _ b (keeps_next_stage (stages_from slots others) k before children r w)
    (λ t. a_stage slots slot others before children r w pure leaves (sym (alone (stage_with (stages_from slots others) slots body slot before children (Some (r, w)) t))) refl)

keeps_stages : (slots : Slots) (stages : Many stage) → AreParts stages → (before : Option ℕ) (children : List ℕ) → Keeps (stages_from slots stages before children)
keeps_stages slots none p before children = keeps_pure (Launched before children)
keeps_stages slots (more (Stage body slot) rest) p before children =
    let k = one_many (Stage body slot) rest p in
    bind (call make_pipe) _ (keeps_call make_pipe tt)
    (λ a. keeps_stage_with slots rest (keeps_stages slots rest k.1) body (script_of (without_first (is_output slot) k.0)) slot before children (as_pair a))

keeps_settled : (l : LaunchedStages) → Keeps (settled l)
keeps_settled (Launched h children) = keeps_pure (Running h children)
keeps_settled (NotLaunched children why) =
    bind (wait_each children) _ (keeps_wait_each children) (λ ts. next (set_status (stages_status (ts ++ why ∷ []))) _ (keeps_status (stages_status (ts ++ why ∷ []))) (keeps_pure Refused))

pub keeps_start_stages : (slots : Slots) (stages : Many stage) → AreParts stages → Keeps (start_stages slots stages)
keeps_start_stages slots stages p = bind (launch_stages slots stages) settled (keeps_stages slots stages p None []) keeps_settled

pub keeps_end_stages : (h : Option ℕ) (children : List ℕ) → Keeps (end_stages h children)
keeps_end_stages h children =
    next (close_end h) _ (keeps_close_end h)
    (bind (wait_each children) _ (keeps_wait_each children) (λ ts. keeps_other (λ s. with_status s (stages_status (ts ++ s.status ∷ []))) (λ s. refl) (λ s. refl)))

-- a body that is called is a tree that a shell holds
abbrev pub CallsScript : Called → Type 0
CallsScript Finished = Unit {0}
CallsScript (Body c) = IsProperTree c
CallsScript (BodyWith args c) = IsProperTree c

gives_finished : (m : Shell (Unit {0})) → Keeps m → Gives CallsScript (finished m)
gives_finished m k = next m (pure Finished) k (gives_pure Finished tt)

gives_ends : (text : List ℕ) → Gives CallsScript (finished (set_status text))
gives_ends text = gives_finished (set_status text) (keeps_status text)

gives_usage : Gives CallsScript usage
gives_usage = gives_ends (codes "usage")

-- texts that are run
tree_is_script : (text : List ℕ) (c : Node cmd) → tree_of text ≡ Some c → IsProperTree c
tree_is_script text c e = accepted_are_scripts text c ((finds_the_tree text c).0 e)

gives_body : (o : Option (Node cmd)) → ((c : Node cmd) → o ≡ Some c → IsProperTree c) → Gives CallsScript (as_body o)
gives_body (Some c) h = gives_pure (Body c) (h c refl)
gives_body None h = gives_ends (codes "syntax error")

gives_body_with : (args : List (List ℕ)) (o : Option (Node cmd)) → ((c : Node cmd) → o ≡ Some c → IsProperTree c) → Gives CallsScript (as_body_with args o)
gives_body_with args (Some c) h = gives_pure (BodyWith args c) (h c refl)
gives_body_with args None h = gives_ends (codes "syntax error")

-- `.`
keeps_or_open : (others : Shell (Option ℕ)) → Keeps others → (o : Option ℕ) → Keeps (opened_or others o)
keeps_or_open others k (Some h) = keeps_pure (Some h)
keeps_or_open others k None = k

keeps_open_first : (paths : List (List ℕ)) → Keeps (open_first paths)
keeps_open_first [] = keeps_pure None
keeps_open_first (p ∷ ps) = bind (call (open_file p Read)) _ (keeps_call (open_file p Read) tt) (λ a. keeps_or_open (open_first ps) (keeps_open_first ps) (as_file a))

gives_whole_file : (args : List (List ℕ)) (text : List ℕ) (why : Option (List ℕ)) → Gives CallsScript (whole_file args text why)
gives_whole_file args text None = gives_body_with args (tree_of text) (tree_is_script text)
gives_whole_file args text (Some why) = gives_ends why

gives_run_file : (args : List (List ℕ)) (o : Option ℕ) → Gives CallsScript (run_file args o)
gives_run_file args None = gives_ends (codes "cannot open")
gives_run_file args (Some h) = bind (read_all longest_file h) _ (keeps_read_all longest_file h) (λ out. next (say (close h)) _ (keeps_say (close h) tt) (gives_whole_file args out.text out.why))

gives_dot : (args : List (List ℕ)) → Gives CallsScript (dot args)
gives_dot [] = gives_usage
gives_dot (file ∷ args) = gives_from _ (λ t p. bind (open_first (candidates t file)) (run_file args) (keeps_open_first (candidates t file)) (gives_run_file args))

-- `cd`
keeps_first_dir : (dirs : List (List ℕ)) → Keeps (first_dir dirs)
keeps_first_dir [] = keeps_status (codes "cannot cd")
keeps_first_dir (d ∷ ds) = bind (call (change_dir d)) _ (keeps_call (change_dir d) tt) (λ a. gives_if (as_done a) (set_status []) (first_dir ds) (keeps_status []) (keeps_first_dir ds))

gives_cd : (args : List (List ℕ)) → Gives CallsScript (cd args)
gives_cd [] = gives_from (λ s. finished (first_dir (dirs_of s (first_member (value_of s (codes "home")))))) (λ t p. gives_finished (first_dir _) (keeps_first_dir _))
gives_cd (dir ∷ []) = gives_from (λ s. finished (first_dir (dirs_of s (dir ∷ [])))) (λ t p. gives_finished (first_dir _) (keeps_first_dir _))
gives_cd (dir ∷ other ∷ others) = gives_usage

-- `exit` and `shift`
keeps_exit_status : (args : List (List ℕ)) → Keeps (exit_status args)
keeps_exit_status [] = keeps_skip
keeps_exit_status (w ∷ ws) = keeps_status (spaced (w ∷ ws))

gives_shifted : (o : Option ℕ) → Gives CallsScript (shifted o)
gives_shifted None = gives_usage
gives_shifted (Some n) =
    gives_finished _ (keeps_change (λ s. record (set_value s (codes "*") (drop n (value_of s (codes "*")))) { status = [] })
    (λ s p. proper_same (set_value s (codes "*") (drop n (value_of s (codes "*")))) _ refl refl (proper_set s (codes "*") (drop n (value_of s (codes "*"))) refl p)))

gives_shift : (args : List (List ℕ)) → Gives CallsScript (shift args)
gives_shift [] = gives_shifted (Some 1)
gives_shift (n ∷ []) = gives_shifted (number_of n)
gives_shift (n ∷ m ∷ ms) = gives_usage

-- `wait`
keeps_wait_child : (n : ℕ) → Keeps (wait_child n)
keeps_wait_child n = next (change (λ s. drop_child s n)) _ (keeps_other (λ s. drop_child s n) (λ s. refl) (λ s. refl)) (bind (waited n) set_status (keeps_waited n) keeps_status)

keeps_wait_all : (ns : List ℕ) → Keeps (wait_all ns)
keeps_wait_all [] = keeps_skip
keeps_wait_all (n ∷ ns) = next (wait_child n) _ (keeps_wait_child n) (keeps_wait_all ns)

gives_wait_numbered : (o : Option ℕ) → Gives CallsScript (wait_numbered o)
gives_wait_numbered None = gives_usage
gives_wait_numbered (Some n) =
    gives_from (λ s. finished (wait_one n s))
    (λ t p. gives_finished (wait_one n t)
    (gives_if (list_any (λ m. m == n) t.background) (wait_child n) (set_status (codes "no such child")) (keeps_wait_child n) (keeps_status (codes "no such child"))))

gives_wait_for : (args : List (List ℕ)) → Gives CallsScript (wait_for args)
gives_wait_for [] = next (set_status []) _ (keeps_status []) (gives_from (λ s. finished (wait_all s.background)) (λ t p. gives_finished (wait_all t.background) (keeps_wait_all t.background)))
gives_wait_for (n ∷ []) = gives_wait_numbered (number_of n)
gives_wait_for (n ∷ m ∷ ms) = gives_usage

-- `whatis`
keeps_other_line : (name shown : List ℕ) → Keeps (other_line name shown)
keeps_other_line name [] = bind (find_program name) _ (keeps_find name) (λ p. keeps_pure (program_line p))
keeps_other_line name (b ∷ bs) = keeps_pure ([], None)

keeps_command_line : (name shown : List ℕ) (o : Option (Node cmd)) (b : Option Builtin) → Keeps (command_line name shown o b)
keeps_command_line name shown (Some body) b = keeps_pure (function_line name body)
keeps_command_line name shown None (Some b) = keeps_pure _
keeps_command_line name shown None None = keeps_other_line name shown

abbrev known_from : List ℕ → State → Shell Known
known_from name s = command_line name (value_line name (value_of s name)) (function_of s name) (builtin_named name) >>= λ k. pure (value_line name (value_of s name) ++ k.0, k.1)

keeps_known : (name : List ℕ) → Keeps (known_of name)
keeps_known name =
    gives_from (known_from name)
    (λ t p. bind (command_line name (value_line name (value_of t name)) (function_of t name) (builtin_named name)) (λ k. pure (value_line name (value_of t name) ++ k.0, k.1))
    (keeps_command_line name (value_line name (value_of t name)) (function_of t name) (builtin_named name)) (λ k. keeps_pure (value_line name (value_of t name) ++ k.0, k.1)))

keeps_known_each : (names : List (List ℕ)) → Keeps (known_each names)
keeps_known_each [] = keeps_pure ([], None)
keeps_known_each (name ∷ names) = bind (known_of name) _ (keeps_known name) (λ first. bind (known_each names) _ (keeps_known_each names) (λ others. keeps_pure _))

keeps_write_lines : (slots : Slots) (text : List ℕ) (status : Option (List ℕ)) → Keeps (write_lines slots text status)
keeps_write_lines slots [] status = keeps_status (met status)
keeps_write_lines slots (b ∷ bs) status = bind (call (write slots.output (b ∷ bs))) _ (keeps_call (write slots.output (b ∷ bs)) tt) (λ a. keeps_status _)

gives_whatis : (slots : Slots) (names : List (List ℕ)) → Gives CallsScript (whatis slots names)
gives_whatis slots names = bind (known_each names) _ (keeps_known_each names) (λ k. gives_finished (write_lines slots k.0 k.1) (keeps_write_lines slots k.0 k.1))

-- `exec`
gives_exec : (slots : Slots) (args : List (List ℕ)) → Gives CallsScript (exec slots args)
gives_exec slots [] = gives_usage
gives_exec slots (name ∷ args) = next (run_program slots name args) exits (keeps_program slots name args) gives_exits

-- the words of a simple command
gives_builtin : (slots : Slots) (again : Shell Called) → Gives CallsScript again → (b : Builtin) (args : List (List ℕ)) → Gives CallsScript (run_builtin again slots b args)
gives_builtin slots again k Dot args = gives_dot args
gives_builtin slots again k BuiltinWord args = k
gives_builtin slots again k Cd args = gives_cd args
gives_builtin slots again k Eval args = gives_body (tree_of (spaced args)) (tree_is_script (spaced args))
gives_builtin slots again k Exec args = gives_exec slots args
gives_builtin slots again k ExitWord args = next (exit_status args) exits (keeps_exit_status args) gives_exits
gives_builtin slots again k Shift args = gives_shift args
gives_builtin slots again k Wait args = gives_wait_for args
gives_builtin slots again k Whatis args = gives_whatis slots args

gives_command : (slots : Slots) (again : Shell Called) → Gives CallsScript again → (name : List ℕ) (args : List (List ℕ)) (b : Option Builtin) → Gives CallsScript (run_command again slots name args b)
gives_command slots again k name args (Some b) = gives_builtin slots again k b args
gives_command slots again k name args None = gives_finished (run_program slots name args) (keeps_program slots name args)

gives_without : (slots : Slots) (words : List (List ℕ)) → Gives CallsScript (without_functions slots words)
gives_without slots [] = gives_usage
gives_without slots (name ∷ args) = gives_command slots (without_functions slots args) (gives_without slots args) name args (builtin_named name)

-- the body of a function
body_if : (f : List ℕ × Node cmd) (fs : List (List ℕ × Node cmd)) (name : List ℕ) (c : Node cmd) → IsProperTree f.1
    → (lookup (bytes_eq name) fs ≡ Some c → IsProperTree c) → (t : Bool) → (if t then Some f.1 else lookup (bytes_eq name) fs) ≡ Some c
    → IsProperTree c
body_if f fs name c b h true e = let same : f.1 ≡ c = cc in subst IsProperTree same b
body_if f fs name c b h false e = h e

body_is_script : (fs : List (List ℕ × Node cmd)) (name : List ℕ) (c : Node cmd) → AllProperTrees fs → lookup (bytes_eq name) fs ≡ Some c → IsProperTree c
body_is_script [] name c h e = absurd cc
body_is_script (f ∷ fs) name c h e = body_if f fs name c h.0 (λ g. body_is_script fs name c h.1 g) (bytes_eq name f.0) e

gives_named : (slots : Slots) (name : List ℕ) (args : List (List ℕ)) (o : Option (Node cmd)) → ((c : Node cmd) → o ≡ Some c → IsProperTree c) → Gives CallsScript (run_named slots name args o)
gives_named slots name args (Some body) h = gives_pure (BodyWith args body) (h body refl)
gives_named slots name args None h = gives_without slots (name ∷ args)

pub gives_words : (slots : Slots) (words : List (List ℕ)) → Gives CallsScript (run_words slots words)
gives_words slots [] = gives_fails slots (codes "empty argument list")
gives_words slots (name ∷ args) =
    gives_from (λ s. run_named slots name args (function_of s name))
    (λ t p. gives_named slots name args (function_of t name) (λ c e. body_is_script t.functions name c p.bodies e))
