-- What the calls of each form are, with descriptors that are among these.
use Rattle.std.proofs.Common.{ℕ, zero, suc, List, [], ◌∷◌, ◌++◌, Option, Some, None, Bool, true, false}
use Rattle.std.specs.Prelude.{codes, not, ◌&&◌}
use Rattle.rc_model.specs.Syntax.Words.{Word, written, word_texts, subject}
use Rattle.rc_model.specs.Syntax.Tree.{guards, is_empty, has_no_items, Node, Many, cmd, arg, item, pair, redir, link, branch, none, more, Empty, Seq}
use Rattle.rc_model.specs.Syntax.Tree.{Simple, Assign, Redirect, Pipeline, AndOr, Not, Subshell, If, IfNot, While, ForAll, For, Switch, Match, Define}
use Rattle.rc_model.specs.Syntax.Tree.{Undefine, Brace, Lit, Concat, Paren, Var, Count, Flat, Sub, Back, Item, Pair, Open, Copy, Here, Link, Branch}
use Rattle.rc_model.specs.declared.syntax.Logic.{Logic}
use Rattle.rc_model.specs.declared.syntax.Logic.TheVariants.{And, Or}
use Rattle.rc_model.specs.declared.call.Slots.{Slots}
use Rattle.rc_model.specs.Run.Patterns.{matched}
use Rattle.rc_model.specs.Run.Calls.{to_file, close, slot_of, with_slot}
use Rattle.rc_model.specs.Run.Plans.{done_with}
use Rattle.rc_model.specs.Run.State.{State, set_value, push_local, pop_local, with_flag, inverted, undefine, is_true}
use Rattle.rc_model.specs.Run.Shell.{ShellResult, Shell, Exit, under, leaves, skip, exits, change, stops}
use Rattle.rc_model.specs.Run.FileNames.{expanded}
use Rattle.rc_model.specs.Run.Acts.{check, value_words, concat_words, match_status, open_one, open_here, variable, background, StartedStages, Running, Refused, start_stages, from_pipe, closing}
use Rattle.rc_model.specs.Run.Builtins.{Called, Finished, Body, BodyWith, run_words}
use Rattle.rc_model.specs.Run.Meaning.{checked, Runner, Caller, local_end, file_end, pipe_end, piped, called_means, if_true, linked, if_means}
use Rattle.rc_model.specs.Run.Meaning.{if_not_means, condition, turns, each_more, each, bound, if_so, cmd_means, arg_means, args_mean, parts_mean}
use Rattle.rc_model.specs.Run.Meaning.{more_parts_mean, items_mean, pairs_mean, redirs_mean, links_mean, branches_mean, meaning}
use Rattle.law_descriptors.specs.Covering.{AreAmong}
use Rattle.law_descriptors.proofs.Keeps.{Safe, Keeps, bind, next, keeps_pure, keeps_skip, keeps_exits, keeps_stops, keeps_say, keeps_change}
use Rattle.law_descriptors.proofs.Keeps.{keeps_status, keeps_choice, keeps_scope, among_file, among_copy, among_pipe}
use Rattle.law_descriptors.proofs.Acts.{keeps_variable, keeps_value_words, keeps_count_words, keeps_flat_words, keeps_selected_words, keeps_concat}
use Rattle.law_descriptors.proofs.Acts.{keeps_define, keeps_open_one, keeps_open_here, keeps_expanded, keeps_subshell, keeps_background, keeps_back}
use Rattle.law_descriptors.proofs.Builtins.{keeps_start_stages, keeps_end_stages, keeps_words}

module _ (P : ℕ → Type 0) where
  keeps_local : (m : Runner) → Keeps P true m → Keeps P true (local_end m)
  keeps_local m k = keeps_scope m _ _ k (λ a. keeps_change pop_local) (λ t owed. tt)

  -- a file that is closed where the command ends
  keeps_file : (h : ℕ) (m : Runner) → Keeps P true m → Keeps P true (file_end h m)
  keeps_file h m k = keeps_scope m _ _ k (λ a. keeps_say (close h) tt) (λ t owed. (tt, λ x. tt))

  -- the last stage of a pipeline
  safe_closing : (h : Option ℕ) (t : State) (owed : List ℕ) → Safe {X = ShellResult (Unit {0})} P true (closing h (done_with (Exit t owed)))
  safe_closing None t owed = tt
  safe_closing (Some h) t owed = (tt, λ x. tt)

  keeps_pipe : (h : Option ℕ) (children : List ℕ) (m : Runner) → Keeps P true m → Keeps P true (pipe_end h children m)
  keeps_pipe h children m k = keeps_scope m _ _ k (λ a. keeps_end_stages P h children) (λ t owed. safe_closing h t (owed ++ children))

  keeps_piped : (slots : Slots) → AreAmong P slots → (last : Slots → Runner) → ((slots : Slots) → AreAmong P slots → Keeps P true (last slots))
      → (st : StartedStages) → Keeps P true (piped slots last st)
  keeps_piped slots w last k (Running h children) = keeps_pipe h children (last (from_pipe h slots)) (k (from_pipe h slots) (among_pipe slots w h))
  keeps_piped slots w last k Refused = keeps_skip

  -- choices, loops and assignments
  keeps_true : (m f : Runner) → Keeps P true m → Keeps P true f → Keeps P true (if_true m f)
  keeps_true m f km kf = keeps_choice (λ s. is_true s.status) m f km kf

  keeps_linked : (l : Logic) (m : Runner) → Keeps P true m → Keeps P true (linked l m)
  keeps_linked And m k = keeps_true m skip k keeps_skip
  keeps_linked Or m k = keeps_true skip m keeps_skip k

  keeps_if_means : (m : Runner) → Keeps P true m → Keeps P true (if_means m)
  keeps_if_means m k = keeps_true _ _ (next m _ k (keeps_change (λ s. with_flag s false))) (keeps_change (λ s. with_flag s true))

  keeps_if_not : (m : Runner) → Keeps P true m → Keeps P true (if_not_means m)
  keeps_if_not m k = keeps_choice (λ s. s.flag) m skip k keeps_skip

  keeps_condition : (b : Bool) (m : Runner) → Keeps P true m → Keeps P true (condition b m)
  keeps_condition true m k = keeps_status []
  keeps_condition false m k = k

  keeps_turns : (n : ℕ) (test body : Runner) → Keeps P true test → Keeps P true body → Keeps P true (turns n test body)
  keeps_turns zero test body kt kb = keeps_stops
  keeps_turns (suc n) test body kt kb = next test _ kt (keeps_true _ skip (next body _ kb (keeps_turns n test body kt kb)) keeps_skip)

  keeps_each_more : (x : List ℕ) (vs : List (List ℕ)) (body : Runner) → Keeps P true body → Keeps P true (each_more x vs body)
  keeps_each_more x [] body k = keeps_skip
  keeps_each_more x (v ∷ vs) body k = next (change (λ s. set_value s x (v ∷ []))) _ (keeps_change (λ s. set_value s x (v ∷ []))) (next body _ k (keeps_each_more x vs body k))

  keeps_each : (x : List ℕ) (vs : List (List ℕ)) (body : Runner) → Keeps P true body → Keeps P true (each x vs body)
  keeps_each x [] body k = keeps_skip
  keeps_each x (v ∷ vs) body k = next (change (λ s. push_local s x (v ∷ []))) _ (keeps_change (λ s. push_local s x (v ∷ []))) (keeps_local _ (next body _ k (keeps_each_more x vs body k)))

  keeps_bound : (bare : Bool) (x : List ℕ) (v : List (List ℕ)) (rest : Runner) → Keeps P true rest → Keeps P true (bound bare x v rest)
  keeps_bound true x v rest k = next (change (λ s. set_value s x v)) rest (keeps_change (λ s. set_value s x v)) k
  keeps_bound false x v rest k = next (change (λ s. push_local s x v)) _ (keeps_change (λ s. push_local s x v)) (keeps_local rest k)

  keeps_if_so : (b : Bool) (m f : Runner) → Keeps P true m → Keeps P true f → Keeps P true (if_so b m f)
  keeps_if_so true m f km kf = km
  keeps_if_so false m f km kf = kf

  -- a file that is opened, and what is within
  keeps_within : (m : Shell ℕ) (slots : Slots) → AreAmong P slots → (slot : ℕ) (body : Slots → Runner) → Keeps P true m
      → ((slots : Slots) → AreAmong P slots → Keeps P true (body slots))
      → Keeps P true (λ s. under (m s) (λ h. file_end h (body (with_slot slots slot (to_file h)))) leaves)
  keeps_within m slots w slot body km kb = bind m _ km (λ h. keeps_file h (body (with_slot slots slot (to_file h))) (kb (with_slot slots slot (to_file h)) (among_file slots w slot h)))

  -- the turns of a `for`, whose name is taken last
  keeps_named : (slots : Slots) → AreAmong P slots → (name : Shell (List Word)) (vs : List (List ℕ)) (body : Runner) → Keeps P true name
      → Keeps P true body → Keeps P true (λ s. under (name s) (λ x. λ s. under (variable slots x s) (λ y. each y vs body) leaves) leaves)
  keeps_named slots w name vs body kn kb = bind name _ kn (λ x. bind (variable slots x) _ (keeps_variable P true slots w x) (λ y. keeps_each y vs body kb))

  -- a command, and where it is not guarded its check
  keeps_check : Keeps P true check
  keeps_check = keeps_choice (λ s. s.strict && not (is_true s.status)) exits skip keeps_exits keeps_skip

  keeps_checked : (g : Bool) (m : Runner) → Keeps P true m → Keeps P true (checked g m)
  keeps_checked true m k = k
  keeps_checked false m k = next m check k keeps_check

-- arguments open no file, so that they may stand where none may be opened
module _ (P : ℕ → Type 0) (o : Bool) (call : Caller) (n : ℕ) (slots : Slots) (w : AreAmong P slots) where
  mutual
    pub keeps_arg : (a : Node arg) → Keeps P o (arg_means a call n slots)
    keeps_arg (Lit text quoted) = keeps_pure (written text quoted ∷ [])
    keeps_arg (Concat parts) = keeps_parts parts
    keeps_arg (Paren words) = keeps_args words []
    keeps_arg (Var name) = bind (arg_means name call n slots) _ (keeps_arg name) (keeps_value_words P o slots w)
    keeps_arg (Count name) = bind (arg_means name call n slots) _ (keeps_arg name) (keeps_count_words P o slots w)
    keeps_arg (Flat name) = bind (arg_means name call n slots) _ (keeps_arg name) (keeps_flat_words P o slots w)
    keeps_arg (Sub name subscripts) =
        bind (arg_means name call n slots) _ (keeps_arg name)
        (λ x. bind (args_mean subscripts call n slots []) _ (keeps_args subscripts []) (keeps_selected_words P o slots w x))
    keeps_arg (Back body) = keeps_back P o slots w body

    pub keeps_args : (l : Many arg) (before : List Word) → Keeps P o (args_mean l call n slots before)
    keeps_args none before = keeps_pure before
    keeps_args (more a rest) before = bind (arg_means a call n slots) _ (keeps_arg a) (λ v. keeps_args rest (before ++ v))

    keeps_parts : (l : Many arg) → Keeps P o (parts_mean l call n slots)
    keeps_parts none = keeps_pure []
    keeps_parts (more a rest) = bind (arg_means a call n slots) _ (keeps_arg a) (λ v. keeps_more_parts rest v)

    keeps_more_parts : (l : Many arg) (before : List Word) → Keeps P o (more_parts_mean l call n slots before)
    keeps_more_parts none before = keeps_pure before
    keeps_more_parts (more a rest) before =
        bind (arg_means a call n slots) _ (keeps_arg a)
        (λ v. bind (concat_words slots before v) _ (keeps_concat P o slots w before v) (λ u. keeps_more_parts rest u))

module _ (P : ℕ → Type 0) (call : Caller) (kc : (slots : Slots) → AreAmong P slots → (c : Node cmd) → Keeps P true (call slots c)) (n : ℕ) where
  keeps_called : (slots : Slots) → AreAmong P slots → (c : Called) → Keeps P true (called_means call slots c)
  keeps_called slots w Finished = keeps_skip
  keeps_called slots w (Body c) = kc slots w c
  keeps_called slots w (BodyWith args c) = next (change (λ s. push_local s (codes "*") args)) _ (keeps_change (λ s. push_local s (codes "*") args)) (keeps_local P (call slots c) (kc slots w c))

  mutual
    pub keeps_cmd : (c : Node cmd) (g : Bool) (slots : Slots) → AreAmong P slots → Keeps P true (cmd_means c g call n slots)
    keeps_cmd Empty g slots w = keeps_skip
    keeps_cmd (Seq items) g slots w = keeps_items items g slots w
    keeps_cmd (Simple words) g slots w =
        bind (args_mean words call n slots []) _ (keeps_args P true call n slots w words [])
        (λ v. bind (expanded v) _ (keeps_expanded P true v)
        (λ u. keeps_checked P g _ (bind (run_words slots (word_texts u)) (called_means call slots) (keeps_words P slots w (word_texts u)) (keeps_called slots w))))
    keeps_cmd (Assign pairs body) g slots w = keeps_pairs pairs (is_empty body) (cmd_means body g call n slots) slots w (keeps_cmd body g slots w)
    keeps_cmd (Redirect redirs body) g slots w = keeps_redirs redirs (cmd_means body g call n) (λ slots w. keeps_cmd body g slots w) slots w
    keeps_cmd (Pipeline stages last) g slots w =
        bind (start_stages slots stages) (piped slots (cmd_means last g call n)) (keeps_start_stages P slots w stages)
        (keeps_piped P slots w (cmd_means last g call n) (λ slots w. keeps_cmd last g slots w))
    keeps_cmd (AndOr first links) g slots w = next (cmd_means first (guards links g) call n slots) _ (keeps_cmd first (guards links g) slots w) (keeps_links links g slots w)
    keeps_cmd (Not body) g slots w = next (cmd_means body true call n slots) _ (keeps_cmd body true slots w) (keeps_change inverted)
    keeps_cmd (Subshell body) g slots w = keeps_subshell P true slots w body
    keeps_cmd (If test body) g slots w = next (cmd_means test true call n slots) _ (keeps_cmd test true slots w) (keeps_if_means P (cmd_means body g call n slots) (keeps_cmd body g slots w))
    keeps_cmd (IfNot body) g slots w = keeps_if_not P (cmd_means body g call n slots) (keeps_cmd body g slots w)
    keeps_cmd (While test body) g slots w =
        keeps_turns P n (condition (has_no_items test) (cmd_means test true call n slots)) (cmd_means body g call n slots)
        (keeps_condition P (has_no_items test) (cmd_means test true call n slots) (keeps_cmd test true slots w)) (keeps_cmd body g slots w)
    keeps_cmd (ForAll name body) g slots w =
        bind (value_words slots (written (codes "*") false ∷ [])) _ (keeps_value_words P true slots w (written (codes "*") false ∷ []))
        (λ v. keeps_named P slots w (arg_means name call n slots) (word_texts v) (cmd_means body g call n slots) (keeps_arg P true call n slots w name) (keeps_cmd body g slots w))
    keeps_cmd (For name words body) g slots w =
        bind (args_mean words call n slots []) _ (keeps_args P true call n slots w words [])
        (λ v. bind (expanded v) _ (keeps_expanded P true v)
        (λ u. keeps_named P slots w (arg_means name call n slots) (word_texts u) (cmd_means body g call n slots) (keeps_arg P true call n slots w name) (keeps_cmd body g slots w)))
    keeps_cmd (Switch word branches) g slots w = bind (arg_means word call n slots) _ (keeps_arg P true call n slots w word) (λ v. keeps_branches branches g (subject v) slots w)
    keeps_cmd (Match word patterns) g slots w =
        bind (arg_means word call n slots) _ (keeps_arg P true call n slots w word)
        (λ v. bind (args_mean patterns call n slots []) _ (keeps_args P true call n slots w patterns []) (λ ps. keeps_status (match_status (subject v) ps)))
    keeps_cmd (Define names body) g slots w = bind (args_mean names call n slots []) _ (keeps_args P true call n slots w names []) (λ v. keeps_define P true slots w (word_texts v) body)
    keeps_cmd (Undefine names) g slots w = bind (args_mean names call n slots []) _ (keeps_args P true call n slots w names []) (λ v. keeps_change (λ s. undefine s (word_texts v)))
    keeps_cmd (Brace body) g slots w = keeps_cmd body g slots w

    keeps_items : (l : Many item) (g : Bool) (slots : Slots) → AreAmong P slots → Keeps P true (items_mean l g call n slots)
    keeps_items none g slots w = keeps_skip
    keeps_items (more (Item c true) rest) g slots w = next (background slots c) _ (keeps_background P slots w c) (keeps_items rest g slots w)
    keeps_items (more (Item c false) rest) g slots w = next (cmd_means c g call n slots) _ (keeps_cmd c g slots w) (keeps_items rest g slots w)

    keeps_pairs : (l : Many pair) (bare : Bool) (body : Runner) (slots : Slots) → AreAmong P slots → Keeps P true body → Keeps P true (pairs_mean l bare body call n slots)
    keeps_pairs none bare body slots w kb = kb
    keeps_pairs (more (Pair name value) rest) bare body slots w kb =
        bind (arg_means name call n slots) _ (keeps_arg P true call n slots w name)
        (λ x. bind (arg_means value call n slots) _ (keeps_arg P true call n slots w value)
        (λ v. bind (expanded v) _ (keeps_expanded P true v)
        (λ u. bind (variable slots x) _ (keeps_variable P true slots w x) (λ y. keeps_bound P bare y (word_texts u) (pairs_mean rest bare body call n slots) (keeps_pairs rest bare body slots w kb)))))

    keeps_redirs : (l : Many redir) (body : Slots → Runner) → ((slots : Slots) → AreAmong P slots → Keeps P true (body slots)) → (slots : Slots)
        → AreAmong P slots → Keeps P true (redirs_mean l body call n slots)
    keeps_redirs none body kb slots w = kb slots w
    keeps_redirs (more (Open mode slot path) rest) body kb slots w =
        bind (arg_means path call n slots) _ (keeps_arg P true call n slots w path)
        (λ v. bind (expanded v) _ (keeps_expanded P true v)
        (λ u. keeps_within P (open_one slots mode (word_texts u)) slots w slot (redirs_mean rest body call n) (keeps_open_one P slots w mode (word_texts u)) (keeps_redirs rest body kb)))
    keeps_redirs (more (Copy to from) rest) body kb slots w = keeps_redirs rest body kb (with_slot slots to (slot_of slots from)) (among_copy slots w to from)
    keeps_redirs (more (Here pieces) rest) body kb slots w =
        keeps_within P (open_here slots pieces) slots w 0 (redirs_mean rest body call n) (keeps_open_here P slots w pieces)
        (keeps_redirs rest body kb)

    keeps_links : (l : Many link) (g : Bool) (slots : Slots) → AreAmong P slots → Keeps P true (links_mean l g call n slots)
    keeps_links none g slots w = keeps_skip
    keeps_links (more (Link logic c) rest) g slots w =
        next (linked logic (cmd_means c (guards rest g) call n slots)) _
        (keeps_linked P logic (cmd_means c (guards rest g) call n slots) (keeps_cmd c (guards rest g) slots w)) (keeps_links rest g slots w)

    keeps_branches : (l : Many branch) (g : Bool) (word : List Word) (slots : Slots) → AreAmong P slots → Keeps P true (branches_mean l g word call n slots)
    keeps_branches none g word slots w = keeps_skip
    keeps_branches (more (Branch patterns body) rest) g word slots w =
        bind (args_mean patterns call n slots []) _ (keeps_args P true call n slots w patterns [])
        (λ ps. keeps_if_so P (matched word ps) (cmd_means body g call n slots) (branches_mean rest g word call n slots) (keeps_cmd body g slots w) (keeps_branches rest g word slots w))

pub keeps_meaning : (P : ℕ → Type 0) (n : ℕ) (slots : Slots) → AreAmong P slots → (c : Node cmd) → Keeps P true (meaning n slots c)
keeps_meaning P zero slots w c = keeps_cmd P (λ slots d. stops) (λ slots w d. keeps_stops) zero c false slots w
keeps_meaning P (suc n) slots w c = keeps_cmd P (meaning n) (keeps_meaning P n) (suc n) c false slots w
