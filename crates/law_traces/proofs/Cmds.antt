-- A script keeps everything.
use Rattle.std.proofs.Common.{◌≡◌, ℕ, zero, suc, List, [], ◌∷◌, ◌++◌, Option, Some, None, Bool, true, false, refl, arith}
use Rattle.std.specs.Prelude.{codes, not, ◌&&◌}
use Rattle.std.specs.Str.{bytes_eq}
use Rattle.std.specs.Map.{remove_entry}
use Rattle.rc_model.specs.Syntax.Text.{spaced}
use Rattle.rc_model.specs.Syntax.Words.{Word, written, word_texts, subject}
use Rattle.rc_model.specs.Run.Patterns.{matched}
use Rattle.rc_model.specs.Run.Calls.{to_file, plain, open_file, here, write, wait, slot_of, with_slot, as_file}
use Rattle.rc_model.specs.declared.call.Slot.{Slot}
use Rattle.rc_model.specs.declared.call.Slots.{Slots}
use Rattle.rc_model.specs.declared.call.Mode.{Mode}
use Rattle.rc_model.specs.Syntax.Tree.{guards, is_empty, has_no_items, Node, Many, cmd, arg, item, pair, redir, link, branch, piece, none, more}
use Rattle.rc_model.specs.Syntax.Tree.{Empty, Seq, Simple, Assign, Redirect, Pipeline, AndOr, Not, Subshell, If, IfNot, While, ForAll, For, Switch}
use Rattle.rc_model.specs.Syntax.Tree.{Match, Define, Undefine, Brace, Lit, Concat, Paren, Var, Count, Flat, Sub, Back, Item, Pair, Open, Copy, Here}
use Rattle.rc_model.specs.Syntax.Tree.{Link, Branch}
use Rattle.rc_model.specs.declared.syntax.Logic.{Logic}
use Rattle.rc_model.specs.declared.syntax.Logic.TheVariants.{And, Or}
use Rattle.rc_model.specs.Run.State.{State, status_name, values_of, covered, put_values, with_status, set_value, push_local, pop_local, end_local, with_flag, inverted, undefine, is_true}
use Rattle.rc_model.specs.Run.Shell.{Shell, under, leaves, skip, exits, change, stops}
use Rattle.rc_model.specs.Run.FileNames.{expanded}
use Rattle.rc_model.specs.Run.Acts.{check, fails, value_words, concat_words, match_status, opened, open_one, here_text, open_here, variable, background}
use Rattle.rc_model.specs.Run.Builtins.{Called, Finished, Body, BodyWith, run_words}
use Rattle.rc_model.specs.Run.Meaning.{checked, Runner, Caller, local_end, file_end, called_means, if_true, linked, if_means, if_not_means, condition}
use Rattle.rc_model.specs.Run.Meaning.{turns, each_more, each, bound, if_so, cmd_means, arg_means, args_mean, parts_mean, more_parts_mean, items_mean}
use Rattle.rc_model.specs.Run.Meaning.{pairs_mean, redirs_mean, links_mean, branches_mean, meaning}
use Rattle.rc_model.specs.Run.Script.{waits, whole}
use Rattle.rc_model.specs.Family.Accounts.{a_file, Account, with_call as call_made, past, after, at_start, Settled}
use Rattle.law_traces.proofs.Keep.{Keeps, keeps_under, one_self, Held, held, Kid, child_counts, Rest}
use Rattle.law_traces.proofs.Steps.{rest_on, may_call, rest_wait, may_wait_last}
use Rattle.law_traces.proofs.Does.{strangers, Ends, keeps_bind, CoversSlot, Covers, covers_all, holds_slot, Clean, clean_bind, clean_pure, clean_skip}
use Rattle.law_traces.proofs.Does.{clean_exits, clean_stops, clean_status, clean_change, neat_state, Opened, opened_so, rekid, child_counts-append}
use Rattle.law_traces.proofs.Does.{strangers_known}
use Rattle.law_traces.proofs.Children.{same_background, set_keeps, clean_pipeline, keeps_file, clean_back, clean_subshell, clean_background}
use Rattle.law_traces.proofs.Forms.{clean_choice, clean_then, clean_scope, clean_value_words, clean_count_words, clean_flat_words}
use Rattle.law_traces.proofs.Forms.{clean_selected_words, clean_concat, clean_variable, clean_define, clean_expanded}
use Rattle.law_traces.proofs.Builtins.{clean_words}
use Rattle.rc_model.specs.Run.Acts.{cannot_open, here_name, not_one_word}

-- locals
push_keeps : (name : List ℕ) (value : List (List ℕ)) (s : State) → (push_local s name value).background ≡ s.background
push_keeps name value s = same_background (bytes_eq name status_name) s
    (record s { locals = name ∷ s.locals; status = spaced value })
    (record s { locals = name ∷ s.locals; variables = put_values s.variables name (value ∷ values_of s name) }) refl refl

end_keeps : (s : State) (l : List (List ℕ)) → (end_local s l).background ≡ s.background
end_keeps s [] = refl
end_keeps s (name ∷ names) =
    same_background (bytes_eq name status_name) s (record s { locals = names })
    (record s { locals = names; variables = put_values s.variables name (covered (values_of s name)) }) refl refl

undefine_keeps : (names : List (List ℕ)) (s : State) → (undefine s names).background ≡ s.background
undefine_keeps [] s = refl
undefine_keeps (n ∷ ns) s = undefine_keeps ns (record s { functions = remove_entry (bytes_eq n) s.functions })

clean_push : {slots : Slots} (x : List ℕ) (v : List (List ℕ)) → Clean slots (change (λ s. push_local s x v))
clean_push x v = clean_change (λ s. push_local s x v) (push_keeps x v)

clean_set : {slots : Slots} (x : List ℕ) (v : List (List ℕ)) → Clean slots (change (λ s. set_value s x v))
clean_set x v = clean_change (λ s. set_value s x v) (set_keeps x v)

clean_local : {slots : Slots} (m : Runner) → Clean slots m → Clean slots (local_end m)
clean_local m k = clean_scope pop_local (λ t. end_keeps t t.locals) m k

-- choices, loops and assignments
clean_true : {A : Type 0} {slots : Slots} (m o : Shell A) → Clean slots m → Clean slots o → Clean slots (if_true m o)
clean_true m o km ko = clean_choice (λ s. is_true s.status) m o km ko

clean_linked : {slots : Slots} (l : Logic) (m : Runner) → Clean slots m → Clean slots (linked l m)
clean_linked And m k = clean_true m skip k clean_skip
clean_linked Or m k = clean_true skip m clean_skip k

clean_if_means : {slots : Slots} (m : Runner) → Clean slots m → Clean slots (if_means m)
clean_if_means m k = clean_true _ _ (clean_then m _ k (clean_change (λ s. with_flag s false) (λ s. refl))) (clean_change (λ s. with_flag s true) (λ s. refl))

clean_if_not : {slots : Slots} (m : Runner) → Clean slots m → Clean slots (if_not_means m)
clean_if_not m k = clean_choice (λ s. s.flag) m skip k clean_skip

clean_condition : {slots : Slots} (b : Bool) (m : Runner) → Clean slots m → Clean slots (condition b m)
clean_condition true m k = clean_status []
clean_condition false m k = k

clean_turns : {slots : Slots} (n : ℕ) (test body : Runner) → Clean slots test → Clean slots body → Clean slots (turns n test body)
clean_turns zero test body kt kb = clean_stops
clean_turns (suc n) test body kt kb = clean_then test _ kt (clean_true _ skip (clean_then body _ kb (clean_turns n test body kt kb)) clean_skip)

clean_each_more : {slots : Slots} (x : List ℕ) (vs : List (List ℕ)) (body : Runner) → Clean slots body → Clean slots (each_more x vs body)
clean_each_more x [] body k = clean_skip
clean_each_more x (v ∷ vs) body k = clean_then (change (λ s. set_value s x (v ∷ []))) _ (clean_set x (v ∷ [])) (clean_then body _ k (clean_each_more x vs body k))

clean_each : {slots : Slots} (x : List ℕ) (vs : List (List ℕ)) (body : Runner) → Clean slots body → Clean slots (each x vs body)
clean_each x [] body k = clean_skip
clean_each x (v ∷ vs) body k = clean_then (change (λ s. push_local s x (v ∷ []))) _ (clean_push x (v ∷ [])) (clean_local _ (clean_then body _ k (clean_each_more x vs body k)))

clean_bound : {slots : Slots} (bare : Bool) (x : List ℕ) (v : List (List ℕ)) (rest : Runner) → Clean slots rest → Clean slots (bound bare x v rest)
clean_bound true x v rest k = clean_then (change (λ s. set_value s x v)) rest (clean_set x v) k
clean_bound false x v rest k = clean_then (change (λ s. push_local s x v)) _ (clean_push x v) (clean_local rest k)

clean_if_so : {slots : Slots} (b : Bool) (m o : Runner) → Clean slots m → Clean slots o → Clean slots (if_so b m o)
clean_if_so true m o km ko = km
clean_if_so false m o km ko = ko

-- redirections
keeps_fails : (F : List Held) (O : List Kid) (slots : Slots) (t : List ℕ) (a : Account) (s : State) → Covers F slots → Rest F O a s
    → Keeps a (fails {A = ℕ} slots t s) (Ends F O (λ h. Rest (held h a_file 0 ∷ F) O))
keeps_fails F O slots t a s c n =
    (may_call (write slots.errors _) n (holds_slot slots.errors c.errors n) tt tt, λ x f. neat_state (with_status s (codes "error")) refl (rest_on (write slots.errors _) n))

keeps_opened : (F : List Held) (O : List Kid) (slots : Slots) (name : List ℕ) (o : Option ℕ) (a : Account) (s : State) → Covers F slots
    → Opened F O o a s → Keeps a (opened slots name o s) (Ends F O (λ h. Rest (held h a_file 0 ∷ F) O))
keeps_opened F O slots name (Some h) a s c n = n
keeps_opened F O slots name None a s c n = keeps_fails F O slots (cannot_open name) a s c n

keeps_open_one : (F : List Held) (O : List Kid) (slots : Slots) (mode : Mode) (v : List (List ℕ)) (a : Account) (s : State) → Covers F slots
    → Rest F O a s → Keeps a (open_one slots mode v s) (Ends F O (λ h. Rest (held h a_file 0 ∷ F) O))
keeps_open_one F O slots mode [] a s c n = keeps_fails F O slots not_one_word a s c n
keeps_open_one F O slots mode (name ∷ []) a s c n =
    (may_call (open_file name mode) n tt tt tt, λ x f. keeps_opened F O slots name (as_file x) (after a (open_file name mode) x) s c (opened_so (open_file name mode) (as_file x) f n))
keeps_open_one F O slots mode (name ∷ x ∷ xs) a s c n = keeps_fails F O slots not_one_word a s c n

keeps_open_here : (F : List Held) (O : List Kid) (slots : Slots) (pieces : Many piece) (a : Account) (s : State) → Covers F slots → Rest F O a s
    → Keeps a (open_here slots pieces s) (Ends F O (λ h. Rest (held h a_file 0 ∷ F) O))
keeps_open_here F O slots pieces a s c n = (
  may_call (here (here_text s pieces)) n tt tt tt,
  λ x f. keeps_opened F O slots here_name (as_file x) (after a (here (here_text s pieces)) x) s c
      (opened_so (here (here_text s pieces)) (as_file x) f n),
)

slot_covers : (F : List Held) (slots : Slots) (n : ℕ) → Covers F slots → CoversSlot F (slot_of slots n)
slot_covers F slots zero c = c.input
slot_covers F slots (suc zero) c = c.output
slot_covers F slots (suc (suc n)) c = c.errors

with_covers : (F : List Held) (slots : Slots) (n : ℕ) (to : Slot) → CoversSlot F to → Covers F slots → Covers F (with_slot slots n to)
with_covers F slots zero to t c = record { input = t; output = c.output; errors = c.errors }
with_covers F slots (suc zero) to t c = record { input = c.input; output = t; errors = c.errors }
with_covers F slots (suc (suc n)) to t c = record { input = c.input; output = c.output; errors = t }

-- a file that is opened, and what is within
clean_within : {slots : Slots} (m : Shell ℕ) (slot : ℕ) (body : Slots → Runner)
    → ((F : List Held) (O : List Kid) (a : Account) (s : State) → Covers F slots → Rest F O a s → Keeps a (m s) (Ends F O (λ h. Rest (held h a_file 0 ∷ F) O)))
    → ((slots : Slots) → Clean slots (body slots)) → Clean slots (λ s. under (m s) (λ h. file_end h (body (with_slot slots slot (to_file h)))) leaves)
clean_within {slots = slots} m slot body km kb = record {
  by = λ F O a s c k.
      keeps_bind F O {Q = λ h. Rest (held h a_file 0 ∷ F) O} (λ x. Rest F O) a (m s) _ (km F O a s c k)
      (λ h b t q. keeps_file F O (held h a_file 0) (with_slot slots slot (to_file h)) (body (with_slot slots slot (to_file h))) b t
      (kb (with_slot slots slot (to_file h)))
      (with_covers (held h a_file 0 ∷ F) slots slot (to_file h) (omega (arith, one_self h)) (covers_all (held h a_file 0) c)) q);
}

clean_copied : {slots : Slots} (to from : ℕ) (body : Slots → Runner) → ((slots : Slots) → Clean slots (body slots)) → Clean slots (body (with_slot slots to (slot_of slots from)))
clean_copied {slots = slots} to from body k = record {
  by = λ F O a s c n. (k (with_slot slots to (slot_of slots from))).by F O a s
      (with_covers F slots to (slot_of slots from) (slot_covers F slots from c) c) n;
}

-- the turns of a `for`, whose name is taken last
clean_named : {slots : Slots} (name : Shell (List Word)) (vs : List (List ℕ)) (body : Runner) → Clean slots name → Clean slots body
    → Clean slots (λ s. under (name s) (λ x. λ s. under (variable slots x s) (λ y. each y vs body) leaves) leaves)
clean_named {slots = slots} name vs body kn kb = clean_bind name _ kn (λ x. clean_bind (variable slots x) _ (clean_variable x) (λ y. clean_each y vs body kb))

-- a command, and where it is not guarded its check
clean_check : {slots : Slots} → Clean slots check
clean_check = clean_choice (λ s. s.strict && not (is_true s.status)) exits skip clean_exits clean_skip

clean_checked : {slots : Slots} (g : Bool) (m : Runner) → Clean slots m → Clean slots (checked g m)
clean_checked true m k = k
clean_checked false m k = clean_then m check k clean_check

module _ (call : Caller) (kc : (slots : Slots) (c : Node cmd) → Clean slots (call slots c)) (n : ℕ) where
  clean_called : {slots : Slots} (c : Called) → Clean slots (called_means call slots c)
  clean_called Finished = clean_skip
  clean_called {slots = slots} (Body c) = kc slots c
  clean_called {slots = slots} (BodyWith args c) = clean_then (change (λ s. push_local s (codes "*") args)) _ (clean_push (codes "*") args) (clean_local (call slots c) (kc slots c))

  mutual
    clean_cmd : (c : Node cmd) (g : Bool) (slots : Slots) → Clean slots (cmd_means c g call n slots)
    clean_cmd Empty g slots = clean_skip
    clean_cmd (Seq items) g slots = clean_items items g slots
    clean_cmd (Simple words) g slots =
        clean_bind (args_mean words call n slots []) _ (clean_args words slots [])
        (λ v. clean_bind (expanded v) _ (clean_expanded v) (λ w. clean_checked g _ (clean_bind (run_words slots (word_texts w)) (called_means call slots) (clean_words (word_texts w)) clean_called)))
    clean_cmd (Assign pairs body) g slots = clean_pairs pairs (is_empty body) (cmd_means body g call n slots) slots (clean_cmd body g slots)
    clean_cmd (Redirect redirs body) g slots = clean_redirs redirs (cmd_means body g call n) (clean_cmd body g) slots
    clean_cmd (Pipeline stages last) g slots = clean_pipeline stages (cmd_means last g call n) (clean_cmd last g)
    clean_cmd (AndOr first links) g slots = clean_then (cmd_means first (guards links g) call n slots) _ (clean_cmd first (guards links g) slots) (clean_links links g slots)
    clean_cmd (Not body) g slots = clean_then (cmd_means body true call n slots) _ (clean_cmd body true slots) (clean_change inverted (λ s. refl))
    clean_cmd (Subshell body) g slots = clean_subshell slots body
    clean_cmd (If test body) g slots = clean_then (cmd_means test true call n slots) _ (clean_cmd test true slots) (clean_if_means (cmd_means body g call n slots) (clean_cmd body g slots))
    clean_cmd (IfNot body) g slots = clean_if_not (cmd_means body g call n slots) (clean_cmd body g slots)
    clean_cmd (While test body) g slots =
        clean_turns n (condition (has_no_items test) (cmd_means test true call n slots)) (cmd_means body g call n slots)
        (clean_condition (has_no_items test) (cmd_means test true call n slots) (clean_cmd test true slots)) (clean_cmd body g slots)
    clean_cmd (ForAll name body) g slots =
        clean_bind (value_words slots (written (codes "*") false ∷ [])) _ (clean_value_words (written (codes "*") false ∷ []))
        (λ v. clean_named (arg_means name call n slots) (word_texts v) (cmd_means body g call n slots) (clean_arg name slots) (clean_cmd body g slots))
    clean_cmd (For name words body) g slots =
        clean_bind (args_mean words call n slots []) _ (clean_args words slots [])
        (λ v. clean_bind (expanded v) _ (clean_expanded v)
        (λ w. clean_named (arg_means name call n slots) (word_texts w) (cmd_means body g call n slots) (clean_arg name slots) (clean_cmd body g slots)))
    clean_cmd (Switch word branches) g slots = clean_bind (arg_means word call n slots) _ (clean_arg word slots) (λ v. clean_branches branches g (subject v) slots)
    clean_cmd (Match word patterns) g slots =
        clean_bind (arg_means word call n slots) _ (clean_arg word slots)
        (λ v. clean_bind (args_mean patterns call n slots []) _ (clean_args patterns slots []) (λ ps. clean_status (match_status (subject v) ps)))
    clean_cmd (Define names body) g slots = clean_bind (args_mean names call n slots []) _ (clean_args names slots []) (λ v. clean_define (word_texts v) body)
    clean_cmd (Undefine names) g slots = clean_bind (args_mean names call n slots []) _ (clean_args names slots []) (λ v. clean_change (λ s. undefine s (word_texts v)) (undefine_keeps (word_texts v)))
    clean_cmd (Brace body) g slots = clean_cmd body g slots

    clean_arg : (w : Node arg) (slots : Slots) → Clean slots (arg_means w call n slots)
    clean_arg (Lit text quoted) slots = clean_pure (written text quoted ∷ [])
    clean_arg (Concat parts) slots = clean_parts parts slots
    clean_arg (Paren words) slots = clean_args words slots []
    clean_arg (Var name) slots = clean_bind (arg_means name call n slots) _ (clean_arg name slots) clean_value_words
    clean_arg (Count name) slots = clean_bind (arg_means name call n slots) _ (clean_arg name slots) clean_count_words
    clean_arg (Flat name) slots = clean_bind (arg_means name call n slots) _ (clean_arg name slots) clean_flat_words
    clean_arg (Sub name subscripts) slots =
        clean_bind (arg_means name call n slots) _ (clean_arg name slots)
        (λ x. clean_bind (args_mean subscripts call n slots []) _ (clean_args subscripts slots []) (clean_selected_words x))
    clean_arg (Back body) slots = clean_back slots body

    clean_args : (l : Many arg) (slots : Slots) (before : List Word) → Clean slots (args_mean l call n slots before)
    clean_args none slots before = clean_pure before
    clean_args (more w rest) slots before = clean_bind (arg_means w call n slots) _ (clean_arg w slots) (λ v. clean_args rest slots (before ++ v))

    clean_parts : (l : Many arg) (slots : Slots) → Clean slots (parts_mean l call n slots)
    clean_parts none slots = clean_pure []
    clean_parts (more w rest) slots = clean_bind (arg_means w call n slots) _ (clean_arg w slots) (clean_more_parts rest slots)

    clean_more_parts : (l : Many arg) (slots : Slots) (before : List Word) → Clean slots (more_parts_mean l call n slots before)
    clean_more_parts none slots before = clean_pure before
    clean_more_parts (more w rest) slots before =
        clean_bind (arg_means w call n slots) _ (clean_arg w slots)
        (λ v. clean_bind (concat_words slots before v) _ (clean_concat before v) (clean_more_parts rest slots))

    clean_items : (l : Many item) (g : Bool) (slots : Slots) → Clean slots (items_mean l g call n slots)
    clean_items none g slots = clean_skip
    clean_items (more (Item c true) rest) g slots = clean_then (background slots c) _ (clean_background slots c) (clean_items rest g slots)
    clean_items (more (Item c false) rest) g slots = clean_then (cmd_means c g call n slots) _ (clean_cmd c g slots) (clean_items rest g slots)

    clean_pairs : (l : Many pair) (bare : Bool) (body : Runner) (slots : Slots) → Clean slots body → Clean slots (pairs_mean l bare body call n slots)
    clean_pairs none bare body slots kb = kb
    clean_pairs (more (Pair name value) rest) bare body slots kb =
        clean_bind (arg_means name call n slots) _ (clean_arg name slots)
        (λ x. clean_bind (arg_means value call n slots) _ (clean_arg value slots)
        (λ v. clean_bind (expanded v) _ (clean_expanded v)
        (λ w. clean_bind (variable slots x) _ (clean_variable x) (λ y. clean_bound bare y (word_texts w) (pairs_mean rest bare body call n slots) (clean_pairs rest bare body slots kb)))))

    clean_redirs : (l : Many redir) (body : Slots → Runner) → ((slots : Slots) → Clean slots (body slots)) → (slots : Slots) → Clean slots (redirs_mean l body call n slots)
    clean_redirs none body kb slots = kb slots
    clean_redirs (more (Open mode slot path) rest) body kb slots =
        clean_bind (arg_means path call n slots) _ (clean_arg path slots)
        (λ v. clean_bind (expanded v) _ (clean_expanded v)
        (λ w. clean_within (open_one slots mode (word_texts w)) slot (redirs_mean rest body call n)
        (λ F O a s c k. keeps_open_one F O slots mode (word_texts w) a s c k) (clean_redirs rest body kb)))
    clean_redirs (more (Copy to from) rest) body kb slots = clean_copied to from (redirs_mean rest body call n) (clean_redirs rest body kb)
    clean_redirs (more (Here pieces) rest) body kb slots =
        clean_within (open_here slots pieces) 0 (redirs_mean rest body call n) (λ F O a s c k. keeps_open_here F O slots pieces a s c k)
        (clean_redirs rest body kb)

    clean_links : (l : Many link) (g : Bool) (slots : Slots) → Clean slots (links_mean l g call n slots)
    clean_links none g slots = clean_skip
    clean_links (more (Link logic c) rest) g slots =
        clean_then (linked logic (cmd_means c (guards rest g) call n slots)) _
        (clean_linked logic (cmd_means c (guards rest g) call n slots) (clean_cmd c (guards rest g) slots)) (clean_links rest g slots)

    clean_branches : (l : Many branch) (g : Bool) (word : List Word) (slots : Slots) → Clean slots (branches_mean l g word call n slots)
    clean_branches none g word slots = clean_skip
    clean_branches (more (Branch patterns body) rest) g word slots =
        clean_bind (args_mean patterns call n slots []) _ (clean_args patterns slots [])
        (λ ps. clean_if_so (matched word ps) (cmd_means body g call n slots) (branches_mean rest g word call n slots) (clean_cmd body g slots) (clean_branches rest g word slots))

clean_meaning : (n : ℕ) (slots : Slots) (c : Node cmd) → Clean slots (meaning n slots c)
clean_meaning zero slots c = clean_cmd (λ slots d. stops) (λ slots d. clean_stops) zero c false slots
clean_meaning (suc n) slots c = clean_cmd (meaning n) (clean_meaning n) (suc n) c false slots

-- the whole script
settled : (a : Account) (s : State) → Rest [] [] a s → Settled a s
settled a s n = record { files = λ k. omega (arith, n.files k); owed = λ k. omega (arith, n.owed k) }

keeps_last_waits : (owed : List ℕ) (a : Account) (s : State) → Rest [] (strangers owed) a s → Keeps a (waits s owed) Settled
keeps_last_waits [] a s n = settled a s n
keeps_last_waits (c ∷ cs) a s n = (may_wait_last n, λ x f. keeps_last_waits cs (past (call_made (wait c) a)) s (rest_wait n))

no_more : (owed : List ℕ) (k : ℕ) → child_counts (strangers owed ++ []) k ≡ child_counts (strangers owed) k
no_more owed k = omega (arith, child_counts-append (strangers owed) [] k)

pub keeps_whole : (n : ℕ) (c : Node cmd) (s : State) → Keeps (at_start s) (whole n c s) Settled
keeps_whole n c s = keeps_under (at_start s) (meaning n plain c s) _ _ (Ends [] [] (λ x. Rest [] [])) Settled
    ((clean_meaning n plain c).by [] [] (at_start s) s (record { input = tt; output = tt; errors = tt })
    (record { due = tt; files = λ k. omega arith; owed = λ k. omega arith; all_held = tt; all_known = tt; background = λ k h. refl }))
    (λ a x t q. settled a t q)
    (λ a t owed q. keeps_last_waits owed a t (rekid (strangers owed) (no_more owed) (strangers_known a owed) q))
