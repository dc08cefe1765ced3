-- A script keeps its state proper, and each shell that it starts reads back what it is handed.
use Rattle.std.proofs.Common.{◌≡◌, ℕ, zero, suc, List, [], ◌∷◌, ◌++◌, Option, Some, None, Bool, true, false, refl}
use Rattle.std.specs.Prelude.{codes, not, ◌&&◌}
use Rattle.rc_model.specs.Syntax.Words.{Word, written, word_texts, subject}
use Rattle.rc_model.specs.Syntax.Tree.{guards, is_empty, has_no_items, Node, Many, cmd, arg, item, pair, redir, link, branch, none, more, Empty, Seq}
use Rattle.rc_model.specs.Syntax.Tree.{Simple, Assign, Redirect, Pipeline, AndOr, Not, Subshell, If, IfNot, While, ForAll, For, Switch, Match, Define}
use Rattle.rc_model.specs.Syntax.Tree.{Undefine, Brace, Lit, Concat, Paren, Var, Count, Flat, Sub, Back, Item, Pair, Open, Copy, Here, Link, Branch}
use Rattle.rc_model.specs.Syntax.WellFormed.{has_some, has_several, has_stages, opens}
use Rattle.rc_model.specs.declared.syntax.Logic.{Logic}
use Rattle.rc_model.specs.declared.syntax.Logic.TheVariants.{And, Or}
use Rattle.rc_model.specs.declared.call.Slots.{Slots}
use Rattle.rc_model.specs.Run.Patterns.{matched}
use Rattle.rc_model.specs.Run.Calls.{to_file, plain, close, slot_of, with_slot}
use Rattle.rc_model.specs.Run.Plans.{done_with}
use Rattle.rc_model.specs.Run.State.{State, set_value, push_local, pop_local, with_flag, inverted, undefine, is_name, is_true}
use Rattle.rc_model.specs.Run.Shell.{Shell, Exit, under, leaves, skip, exits, change, stops}
use Rattle.rc_model.specs.Run.FileNames.{expanded}
use Rattle.rc_model.specs.Run.Acts.{check, value_words, concat_words, match_status, open_one, open_here, variable, background, StartedStages, Running, Refused, start_stages, from_pipe, closing}
use Rattle.rc_model.specs.Run.Builtins.{Called, Finished, Body, BodyWith, run_words}
use Rattle.rc_model.specs.Run.Meaning.{checked, Runner, Caller, local_end, file_end, pipe_end, piped, called_means, if_true, linked, if_means}
use Rattle.rc_model.specs.Run.Meaning.{if_not_means, condition, turns, each_more, each, bound, if_so, cmd_means, arg_means, args_mean, parts_mean}
use Rattle.rc_model.specs.Run.Meaning.{more_parts_mean, items_mean, pairs_mean, redirs_mean, links_mean, branches_mean, meaning}
use Rattle.rc_model.specs.Run.Script.{waits, whole}
use Rattle.rc_model.specs.Handed.Proper.{IsProperTree, IsProper}
use Rattle.law_image.proofs.Proper.{proper_set, proper_push, proper_pop, proper_undefine}
use Rattle.law_handed.proofs.Parts.{IsPart, AreParts, without_first, down, two, one_many, many_one, three, script_of, part_of}
use Rattle.law_handed.proofs.Safe.{Safe, safe_under, EndsSo, Anything, Keeps, bind_so, bind, next, keeps_pure, keeps_skip, gives_exits, gives_stops}
use Rattle.law_handed.proofs.Safe.{keeps_say, keeps_change, keeps_other, keeps_status, gives_choice, keeps_scope}
use Rattle.law_handed.proofs.Acts.{gives_variable, keeps_value_words, keeps_count_words, keeps_flat_words, keeps_selected_words, keeps_concat}
use Rattle.law_handed.proofs.Acts.{keeps_define, keeps_open_one, keeps_open_here, keeps_expanded, keeps_subshell, keeps_background, keeps_back}
use Rattle.law_handed.proofs.Builtins.{keeps_start_stages, keeps_end_stages, CallsScript, gives_words}

-- locals
keeps_push : (x : List ℕ) (v : List (List ℕ)) → is_name x ≡ true → Keeps (change (λ s. push_local s x v))
keeps_push x v h = keeps_change (λ s. push_local s x v) (λ s p. proper_push s x v h p)

keeps_set : (x : List ℕ) (v : List (List ℕ)) → is_name x ≡ true → Keeps (change (λ s. set_value s x v))
keeps_set x v h = keeps_change (λ s. set_value s x v) (λ s p. proper_set s x v h p)

keeps_local : (m : Runner) → Keeps m → Keeps (local_end m)
keeps_local m k = keeps_scope m _ _ k (λ a. keeps_change pop_local proper_pop) (λ t owed p. proper_pop t p)

-- a file that is closed where the command ends
keeps_file : (h : ℕ) (m : Runner) → Keeps m → Keeps (file_end h m)
keeps_file h m k = keeps_scope m _ _ k (λ a. keeps_say (close h) tt) (λ t owed p. (tt, λ x. p))

-- the last stage of a pipeline
safe_closing : (h : Option ℕ) (t : State) (owed : List ℕ) → IsProper t → Safe (closing h (done_with (Exit t owed))) (EndsSo {A = Unit {0}} Anything)
safe_closing None t owed p = p
safe_closing (Some h) t owed p = (tt, λ x. p)

keeps_pipe : (h : Option ℕ) (children : List ℕ) (m : Runner) → Keeps m → Keeps (pipe_end h children m)
keeps_pipe h children m k = keeps_scope m _ _ k (λ a. keeps_end_stages h children) (λ t owed p. safe_closing h t (owed ++ children) p)

keeps_piped : (slots : Slots) (last : Slots → Runner) → ((slots : Slots) → Keeps (last slots)) → (st : StartedStages) → Keeps (piped slots last st)
keeps_piped slots last k (Running h children) = keeps_pipe h children (last (from_pipe h slots)) (k (from_pipe h slots))
keeps_piped slots last k Refused = keeps_skip

-- choices, loops and assignments
keeps_true : (m o : Runner) → Keeps m → Keeps o → Keeps (if_true m o)
keeps_true m o km ko = gives_choice (λ s. is_true s.status) m o km ko

keeps_linked : (l : Logic) (m : Runner) → Keeps m → Keeps (linked l m)
keeps_linked And m k = keeps_true m skip k keeps_skip
keeps_linked Or m k = keeps_true skip m keeps_skip k

keeps_if_means : (m : Runner) → Keeps m → Keeps (if_means m)
keeps_if_means m k = keeps_true _ _ (next m _ k (keeps_other (λ s. with_flag s false) (λ s. refl) (λ s. refl))) (keeps_other (λ s. with_flag s true) (λ s. refl) (λ s. refl))

keeps_if_not : (m : Runner) → Keeps m → Keeps (if_not_means m)
keeps_if_not m k = gives_choice (λ s. s.flag) m skip k keeps_skip

keeps_condition : (b : Bool) (m : Runner) → Keeps m → Keeps (condition b m)
keeps_condition true m k = keeps_status []
keeps_condition false m k = k

keeps_turns : (n : ℕ) (test body : Runner) → Keeps test → Keeps body → Keeps (turns n test body)
keeps_turns zero test body kt kb = gives_stops
keeps_turns (suc n) test body kt kb = next test _ kt (keeps_true _ skip (next body _ kb (keeps_turns n test body kt kb)) keeps_skip)

keeps_each_more : (x : List ℕ) (vs : List (List ℕ)) (body : Runner) → is_name x ≡ true → Keeps body → Keeps (each_more x vs body)
keeps_each_more x [] body h k = keeps_skip
keeps_each_more x (v ∷ vs) body h k = next (change (λ s. set_value s x (v ∷ []))) _ (keeps_set x (v ∷ []) h) (next body _ k (keeps_each_more x vs body h k))

keeps_each : (x : List ℕ) (vs : List (List ℕ)) (body : Runner) → is_name x ≡ true → Keeps body → Keeps (each x vs body)
keeps_each x [] body h k = keeps_skip
keeps_each x (v ∷ vs) body h k = next (change (λ s. push_local s x (v ∷ []))) _ (keeps_push x (v ∷ []) h) (keeps_local _ (next body _ k (keeps_each_more x vs body h k)))

keeps_bound : (bare : Bool) (x : List ℕ) (v : List (List ℕ)) (rest : Runner) → is_name x ≡ true → Keeps rest → Keeps (bound bare x v rest)
keeps_bound true x v rest h k = next (change (λ s. set_value s x v)) rest (keeps_set x v h) k
keeps_bound false x v rest h k = next (change (λ s. push_local s x v)) _ (keeps_push x v h) (keeps_local rest k)

keeps_if_so : (b : Bool) (m o : Runner) → Keeps m → Keeps o → Keeps (if_so b m o)
keeps_if_so true m o km ko = km
keeps_if_so false m o km ko = ko

-- a file that is opened, and what is within
keeps_within : (m : Shell ℕ) (slots : Slots) (slot : ℕ) (body : Slots → Runner) → Keeps m → ((slots : Slots) → Keeps (body slots))
    → Keeps (λ s. under (m s) (λ h. file_end h (body (with_slot slots slot (to_file h)))) leaves)
keeps_within m slots slot body km kb = bind m _ km (λ h. keeps_file h (body (with_slot slots slot (to_file h))) (kb (with_slot slots slot (to_file h))))

-- the turns of a `for`, whose name is taken last
keeps_named : (slots : Slots) (name : Shell (List Word)) (vs : List (List ℕ)) (body : Runner) → Keeps name → Keeps body
    → Keeps (λ s. under (name s) (λ x. λ s. under (variable slots x s) (λ y. each y vs body) leaves) leaves)
keeps_named slots name vs body kn kb = bind name _ kn (λ x. bind_so (variable slots x) _ (gives_variable slots x) (λ y h. keeps_each y vs body h kb))

-- a command, and where it is not guarded its check
keeps_check : Keeps check
keeps_check = gives_choice (λ s. s.strict && not (is_true s.status)) exits skip gives_exits keeps_skip

keeps_checked : (g : Bool) (m : Runner) → Keeps m → Keeps (checked g m)
keeps_checked true m k = k
keeps_checked false m k = next m check k keeps_check

module _ (call : Caller) (kc : (slots : Slots) (c : Node cmd) → IsProperTree c → Keeps (call slots c)) (n : ℕ) where
  keeps_called : (slots : Slots) (c : Called) → CallsScript c → Keeps (called_means call slots c)
  keeps_called slots Finished b = keeps_skip
  keeps_called slots (Body c) b = kc slots c b
  keeps_called slots (BodyWith args c) b = next (change (λ s. push_local s (codes "*") args)) _ (keeps_push (codes "*") args refl) (keeps_local (call slots c) (kc slots c b))

  mutual
    keeps_cmd : (c : Node cmd) (g : Bool) (slots : Slots) → IsPart c → Keeps (cmd_means c g call n slots)
    keeps_cmd Empty g slots p = keeps_skip
    keeps_cmd (Seq items) g slots p = keeps_items items g slots (down p)
    keeps_cmd (Simple words) g slots p =
        bind (args_mean words call n slots []) _ (keeps_args words slots [] (without_first (has_some words) (down p)))
        (λ v. bind (expanded v) _ (keeps_expanded v)
        (λ w. keeps_checked g _ (bind_so (run_words slots (word_texts w)) (called_means call slots) (gives_words slots (word_texts w)) (keeps_called slots))))
    keeps_cmd (Assign pairs body) g slots p =
        let k = many_one pairs body (without_first (has_some pairs) (down p)) in
        keeps_pairs pairs (is_empty body) (cmd_means body g call n slots) slots k.0 (keeps_cmd body g slots k.1)
    keeps_cmd (Redirect redirs body) g slots p =
        let k = many_one redirs body (without_first (has_some redirs) (down p)) in
        keeps_redirs redirs (cmd_means body g call n) k.0 (λ slots. keeps_cmd body g slots k.1) slots
    keeps_cmd (Pipeline stages last) g slots p =
        let k = many_one stages last (without_first (has_stages stages) (down p)) in
        bind (start_stages slots stages) (piped slots (cmd_means last g call n)) (keeps_start_stages slots stages k.0)
        (keeps_piped slots (cmd_means last g call n) (λ slots. keeps_cmd last g slots k.1))
    keeps_cmd (AndOr first links) g slots p =
        let k = one_many first links (without_first (has_some links) (down p)) in
        next (cmd_means first (guards links g) call n slots) _ (keeps_cmd first (guards links g) slots k.0) (keeps_links links g slots k.1)
    keeps_cmd (Not body) g slots p = next (cmd_means body true call n slots) _ (keeps_cmd body true slots (down p)) (keeps_other inverted (λ s. refl) (λ s. refl))
    keeps_cmd (Subshell body) g slots p = keeps_subshell slots body (script_of (down p))
    keeps_cmd (If test body) g slots p =
        let k = two test body (down p) in
        next (cmd_means test true call n slots) _ (keeps_cmd test true slots k.0) (keeps_if_means (cmd_means body g call n slots) (keeps_cmd body g slots k.1))
    keeps_cmd (IfNot body) g slots p = keeps_if_not (cmd_means body g call n slots) (keeps_cmd body g slots (down p))
    keeps_cmd (While test body) g slots p =
        let k = two test body (down p) in
        keeps_turns n (condition (has_no_items test) (cmd_means test true call n slots)) (cmd_means body g call n slots)
        (keeps_condition (has_no_items test) (cmd_means test true call n slots) (keeps_cmd test true slots k.0)) (keeps_cmd body g slots k.1)
    keeps_cmd (ForAll name body) g slots p =
        let k = two name body (down p) in
        bind (value_words slots (written (codes "*") false ∷ [])) _ (keeps_value_words slots (written (codes "*") false ∷ []))
        (λ v. keeps_named slots (arg_means name call n slots) (word_texts v) (cmd_means body g call n slots) (keeps_arg name slots k.0) (keeps_cmd body g slots k.1))
    keeps_cmd (For name words body) g slots p =
        let k = three name words body (down p) in
        bind (args_mean words call n slots []) _ (keeps_args words slots [] k.1)
        (λ v. bind (expanded v) _ (keeps_expanded v)
        (λ w. keeps_named slots (arg_means name call n slots) (word_texts w) (cmd_means body g call n slots) (keeps_arg name slots k.0) (keeps_cmd body g slots k.2)))
    keeps_cmd (Switch word branches) g slots p =
        let k = one_many word branches (down p) in
        bind (arg_means word call n slots) _ (keeps_arg word slots k.0) (λ v. keeps_branches branches g (subject v) slots k.1)
    keeps_cmd (Match word patterns) g slots p =
        let k = one_many word patterns (down p) in
        bind (arg_means word call n slots) _ (keeps_arg word slots k.0)
        (λ v. bind (args_mean patterns call n slots []) _ (keeps_args patterns slots [] k.1) (λ ps. keeps_status (match_status (subject v) ps)))
    keeps_cmd (Define names body) g slots p =
        let k = many_one names body (without_first (has_some names) (down p)) in
        bind (args_mean names call n slots []) _ (keeps_args names slots [] k.0) (λ v. keeps_define slots (word_texts v) body (script_of k.1))
    keeps_cmd (Undefine names) g slots p =
        bind (args_mean names call n slots []) _ (keeps_args names slots [] (without_first (has_some names) (down p)))
        (λ v. keeps_change (λ s. undefine s (word_texts v)) (λ s q. proper_undefine s (word_texts v) q))
    keeps_cmd (Brace body) g slots p = keeps_cmd body g slots (down p)

    keeps_arg : (w : Node arg) (slots : Slots) → IsPart w → Keeps (arg_means w call n slots)
    keeps_arg (Lit text quoted) slots p = keeps_pure (written text quoted ∷ [])
    keeps_arg (Concat parts) slots p = keeps_parts parts slots (without_first (has_several parts) (down p))
    keeps_arg (Paren words) slots p = keeps_args words slots [] (down p)
    keeps_arg (Var name) slots p = bind (arg_means name call n slots) _ (keeps_arg name slots (down p)) (keeps_value_words slots)
    keeps_arg (Count name) slots p = bind (arg_means name call n slots) _ (keeps_arg name slots (down p)) (keeps_count_words slots)
    keeps_arg (Flat name) slots p = bind (arg_means name call n slots) _ (keeps_arg name slots (down p)) (keeps_flat_words slots)
    keeps_arg (Sub name subscripts) slots p =
        let k = one_many name subscripts (down p) in
        bind (arg_means name call n slots) _ (keeps_arg name slots k.0) (λ x. bind (args_mean subscripts call n slots []) _ (keeps_args subscripts slots [] k.1) (keeps_selected_words slots x))
    keeps_arg (Back body) slots p = keeps_back slots body (script_of (down p))

    keeps_args : (l : Many arg) (slots : Slots) (before : List Word) → AreParts l → Keeps (args_mean l call n slots before)
    keeps_args none slots before p = keeps_pure before
    keeps_args (more w rest) slots before p = let k = one_many w rest p in bind (arg_means w call n slots) _ (keeps_arg w slots k.0) (λ v. keeps_args rest slots (before ++ v) k.1)

    keeps_parts : (l : Many arg) (slots : Slots) → AreParts l → Keeps (parts_mean l call n slots)
    keeps_parts none slots p = keeps_pure []
    keeps_parts (more w rest) slots p = let k = one_many w rest p in bind (arg_means w call n slots) _ (keeps_arg w slots k.0) (λ v. keeps_more_parts rest slots v k.1)

    keeps_more_parts : (l : Many arg) (slots : Slots) (before : List Word) → AreParts l → Keeps (more_parts_mean l call n slots before)
    keeps_more_parts none slots before p = keeps_pure before
    keeps_more_parts (more w rest) slots before p =
        let k = one_many w rest p in
        bind (arg_means w call n slots) _ (keeps_arg w slots k.0) (λ v. bind (concat_words slots before v) _ (keeps_concat slots before v) (λ u. keeps_more_parts rest slots u k.1))

    keeps_items : (l : Many item) (g : Bool) (slots : Slots) → AreParts l → Keeps (items_mean l g call n slots)
    keeps_items none g slots p = keeps_skip
    keeps_items (more (Item c true) rest) g slots p = let k = one_many (Item c true) rest p in next (background slots c) _ (keeps_background slots c (script_of k.0)) (keeps_items rest g slots k.1)
    keeps_items (more (Item c false) rest) g slots p = let k = one_many (Item c false) rest p in next (cmd_means c g call n slots) _ (keeps_cmd c g slots k.0) (keeps_items rest g slots k.1)

    keeps_pairs : (l : Many pair) (bare : Bool) (body : Runner) (slots : Slots) → AreParts l → Keeps body → Keeps (pairs_mean l bare body call n slots)
    keeps_pairs none bare body slots p kb = kb
    keeps_pairs (more (Pair name value) rest) bare body slots p kb =
        let k = one_many (Pair name value) rest p in
        let l = two name value k.0 in
        bind (arg_means name call n slots) _ (keeps_arg name slots l.0)
        (λ x. bind (arg_means value call n slots) _ (keeps_arg value slots l.1)
        (λ v. bind (expanded v) _ (keeps_expanded v)
        (λ w. bind_so (variable slots x) _ (gives_variable slots x) (λ y h. keeps_bound bare y (word_texts w) (pairs_mean rest bare body call n slots) h (keeps_pairs rest bare body slots k.1 kb)))))

    keeps_redirs : (l : Many redir) (body : Slots → Runner) → AreParts l → ((slots : Slots) → Keeps (body slots)) → (slots : Slots) → Keeps (redirs_mean l body call n slots)
    keeps_redirs none body p kb slots = kb slots
    keeps_redirs (more (Open mode slot path) rest) body p kb slots =
        let k = one_many (Open mode slot path) rest p in
        bind (arg_means path call n slots) _ (keeps_arg path slots (without_first (opens mode slot) k.0))
        (λ v. bind (expanded v) _ (keeps_expanded v)
        (λ w. keeps_within (open_one slots mode (word_texts w)) slots slot (redirs_mean rest body call n) (keeps_open_one slots mode (word_texts w)) (keeps_redirs rest body k.1 kb)))
    keeps_redirs (more (Copy to from) rest) body p kb slots = keeps_redirs rest body (one_many (Copy to from) rest p).1 kb (with_slot slots to (slot_of slots from))
    keeps_redirs (more (Here pieces) rest) body p kb slots =
        keeps_within (open_here slots pieces) slots 0 (redirs_mean rest body call n) (keeps_open_here slots pieces)
        (keeps_redirs rest body (one_many (Here pieces) rest p).1 kb)

    keeps_links : (l : Many link) (g : Bool) (slots : Slots) → AreParts l → Keeps (links_mean l g call n slots)
    keeps_links none g slots p = keeps_skip
    keeps_links (more (Link logic c) rest) g slots p =
        let k = one_many (Link logic c) rest p in
        next (linked logic (cmd_means c (guards rest g) call n slots)) _
        (keeps_linked logic (cmd_means c (guards rest g) call n slots) (keeps_cmd c (guards rest g) slots k.0)) (keeps_links rest g slots k.1)

    keeps_branches : (l : Many branch) (g : Bool) (word : List Word) (slots : Slots) → AreParts l → Keeps (branches_mean l g word call n slots)
    keeps_branches none g word slots p = keeps_skip
    keeps_branches (more (Branch patterns body) rest) g word slots p =
        let k = one_many (Branch patterns body) rest p in
        let l = many_one patterns body k.0 in
        bind (args_mean patterns call n slots []) _ (keeps_args patterns slots [] l.0)
        (λ ps. keeps_if_so (matched word ps) (cmd_means body g call n slots) (branches_mean rest g word call n slots) (keeps_cmd body g slots l.1) (keeps_branches rest g word slots k.1))

keeps_meaning : (n : ℕ) (slots : Slots) (c : Node cmd) → IsProperTree c → Keeps (meaning n slots c)
keeps_meaning zero slots c s = keeps_cmd (λ slots d. stops) (λ slots d b. gives_stops) zero c false slots (part_of s)
keeps_meaning (suc n) slots c s = keeps_cmd (meaning n) (keeps_meaning n) (suc n) c false slots (part_of s)

-- the whole script
safe_waits : (s : State) (owed : List ℕ) → IsProper s → Safe (waits s owed) IsProper
safe_waits s [] p = p
safe_waits s (n ∷ ns) p = (tt, λ x. safe_waits s ns p)

pub safe_whole : (n : ℕ) (c : Node cmd) (s : State) → IsProperTree c → IsProper s → Safe (whole n c s) IsProper
safe_whole n c s b p = safe_under (meaning n plain c s) _ _ (EndsSo Anything) IsProper ((keeps_meaning n plain c b).by s p) (λ x t h. h.1) (λ t owed h. safe_waits t owed h)
