-- With more turns a meaning does the same, or goes on where it was cut short.
use Rattle.std.proofs.Common.{ℕ, zero, suc, ◌≤◌, List, [], ◌∷◌, ◌++◌, refl, subst, arith}
use Rattle.std.specs.Prelude.{Bool, true, false, Option, if◌then◌else◌, codes}
use Rattle.rc_model.specs.Syntax.Words.{Word, written, word_texts, subject}
use Rattle.rc_model.specs.Run.Patterns.{matched}
use Rattle.rc_model.specs.Run.Calls.{Answer, to_file, slot_of, with_slot, plain}
use Rattle.rc_model.specs.declared.call.Slots.{Slots}
use Rattle.rc_model.specs.Syntax.Tree.{is_empty, has_no_items, guards, Node, Many, cmd, arg, item, pair, redir, link, branch, none, more, Empty, Seq}
use Rattle.rc_model.specs.Syntax.Tree.{Simple, Assign, Redirect, Pipeline, AndOr, Not, Subshell, If, IfNot, While, ForAll, For, Switch, Match, Define}
use Rattle.rc_model.specs.Syntax.Tree.{Undefine, Brace, Lit, Concat, Paren, Var, Count, Flat, Sub, Back, Item, Pair, Open, Copy, Here, Link, Branch}
use Rattle.rc_model.specs.declared.syntax.Logic.{Logic}
use Rattle.rc_model.specs.declared.syntax.Logic.TheVariants.{And, Or}
use Rattle.rc_model.specs.Run.Plans.{Plan, done_with, ask, cut}
use Rattle.rc_model.specs.Run.State.{State, set_value, push_local, with_flag, is_true}
use Rattle.rc_model.specs.Run.Shell.{ShellResult, Next, Exit, Shell, under, leaves, skip, change, stops}
use Rattle.rc_model.specs.Run.FileNames.{expanded}
use Rattle.rc_model.specs.Run.Acts.{check, variable, value_words, concat_words, open_one, open_here, subshell, background, StartedStages, Running}
use Rattle.rc_model.specs.Run.Acts.{Refused, start_stages, end_stages, from_pipe, back_words}
use Rattle.rc_model.specs.Run.Builtins.{Called, Finished, Body, BodyWith, run_words}
use Rattle.rc_model.specs.Run.Meaning.{checked, Runner, Caller, called_means, local_end, file_end, pipe_end, piped, linked, if_means, if_not_means}
use Rattle.rc_model.specs.Run.Meaning.{condition, turns, each_more, each, bound, if_so, cmd_means, arg_means, args_mean, parts_mean, more_parts_mean}
use Rattle.rc_model.specs.Run.Meaning.{items_mean, pairs_mean, redirs_mean, links_mean, branches_mean, meaning}
use Rattle.rc_model.specs.Run.Script.{waits, whole, script, Within}
use Rattle.law_machine.proofs.Less.{Less, less_plays}

less_same : {X : Type 0} (p : Plan X) → Less p p
less_same (done_with x) = refl
less_same (ask c go) = (refl, λ a. less_same (go a))
less_same cut = tt

-- of two meanings
abbrev pub More : {A : Type 0} → Shell A → Shell A → Type 0
More f g = (s : State) → Less (f s) (g s)

less_under : {A X : Type 0} (p q : Plan (ShellResult A)) (f g : A → State → Plan X) (leave : State → List ℕ → Plan X) → Less p q
    → ((a : A) (s : State) → Less (f a s) (g a s)) → Less (under p f leave) (under q g leave)
less_under cut q f g leave h hf = tt
less_under {A = A} (done_with x) (done_with y) f g leave h hf = subst (λ z. Less (under (done_with x) f leave) (under (done_with z) g leave)) h (ended x)
  where
    ended : (x : ShellResult A) → Less (under (done_with x) f leave) (under (done_with x) g leave)
    ended (Next a s) = hf a s
    ended (Exit s owed) = less_same (leave s owed)
less_under (done_with x) (ask d go') f g leave h hf = absurd h
less_under (done_with x) cut f g leave h hf = absurd h
less_under (ask c go) (done_with y) f g leave h hf = absurd h
less_under (ask c go) cut f g leave h hf = absurd h
less_under (ask c go) (ask d go') f g leave h hf = (h.0, λ a. less_under (go a) (go' a) f g leave (h.1 a) hf)

more_bind : {A B : Type 0} (f f' : Shell A) (g g' : A → Shell B) → More f f' → ((a : A) → More (g a) (g' a))
    → More (λ s. under (f s) g leaves) (λ s. under (f' s) g' leaves)
more_bind f f' g g' mf mg s = less_under (f s) (f' s) g g' leaves (mf s) mg

-- what follows the same act
more_after : {A B : Type 0} (f : Shell A) (g g' : A → Shell B) → ((a : A) → More (g a) (g' a)) → More (λ s. under (f s) g leaves) (λ s. under (f s) g' leaves)
more_after f g g' mg s = less_under (f s) (f s) g g' leaves (less_same (f s)) mg

-- the same act after
more_before : {A B : Type 0} (f f' : Shell A) (g : A → Shell B) → More f f' → More (λ s. under (f s) g leaves) (λ s. under (f' s) g leaves)
more_before f f' g mf s = less_under (f s) (f' s) g g leaves (mf s) (λ a s1. less_same (g a s1))

-- ** the forms, given their parts

more_local : (f f' : Runner) → More f f' → More (local_end f) (local_end f')
more_local f f' mf s = less_under (f s) (f' s) _ _ _ (mf s) (λ a s1. refl)

more_file : (h : ℕ) (f f' : Runner) → More f f' → More (file_end h f) (file_end h f')
more_file h f f' mf s = less_under (f s) (f' s) _ _ _ (mf s) (λ a s1. (refl, λ b. refl))

more_pipe : (h : Option ℕ) (cs : List ℕ) (f f' : Runner) → More f f' → More (pipe_end h cs f) (pipe_end h cs f')
more_pipe h cs f f' mf s = less_under (f s) (f' s) _ _ _ (mf s) (λ a s1. less_same (end_stages h cs s1))

more_piped : (slots : Slots) (f f' : Slots → Runner) → ((slots : Slots) → More (f slots) (f' slots)) → (st : StartedStages) → More (piped slots f st) (piped slots f' st)
more_piped slots f f' mf (Running h cs) s = more_pipe h cs (f (from_pipe h slots)) (f' (from_pipe h slots)) (mf (from_pipe h slots)) s
more_piped slots f f' mf Refused s = refl

-- by a bit
more_choice : {A : Type 0} (b : Bool) (p p' q q' : Plan (ShellResult A)) → Less p p' → Less q q' → Less (if b then p else q) (if b then p' else q')
more_choice true p p' q q' lp lq = lp
more_choice false p p' q q' lp lq = lq

more_if_so : (b : Bool) (f f' g g' : Runner) → More f f' → More g g' → More (if_so b f g) (if_so b f' g')
more_if_so true f f' g g' mf mg s = mf s
more_if_so false f f' g g' mf mg s = mg s

more_linked : (logic : Logic) (f f' : Runner) → More f f' → More (linked logic f) (linked logic f')
more_linked And f f' mf s = more_choice (is_true s.status) (f s) (f' s) (skip s) (skip s) (mf s) refl
more_linked Or f f' mf s = more_choice (is_true s.status) (skip s) (skip s) (f s) (f' s) refl (mf s)

more_if : (f f' : Runner) → More f f' → More (if_means f) (if_means f')
more_if f f' mf s = more_choice (is_true s.status) _ _ _ _ (more_before f f' (λ a. change (λ s. with_flag s false)) mf s) refl

more_if_not : (f f' : Runner) → More f f' → More (if_not_means f) (if_not_means f')
more_if_not f f' mf s = more_choice s.flag (f s) (f' s) (skip s) (skip s) (mf s) refl

more_condition : (b : Bool) (f f' : Runner) → More f f' → More (condition b f) (condition b f')
more_condition true f f' mf s = refl
more_condition false f f' mf s = mf s

more_turns : (t t' f f' : Runner) → More t t' → More f f' → (m n : ℕ) → m ≤ n → More (turns m t f) (turns n t' f')
more_turns t t' f f' mt mf zero n le s = tt
more_turns t t' f f' mt mf (suc m) zero le s = absurd (omega arith)
more_turns t t' f f' mt mf (suc m) (suc n) le s =
    more_bind t t' _ _ mt (λ a s1.
    more_choice (is_true s1.status) _ _ _ _ (more_bind f f' _ _ mf (λ b. more_turns t t' f f' mt mf m n (omega arith)) s1) refl) s

more_each_more : (x : List ℕ) (vs : List (List ℕ)) (f f' : Runner) → More f f' → More (each_more x vs f) (each_more x vs f')
more_each_more x [] f f' mf s = refl
more_each_more x (v ∷ vs) f f' mf s = more_bind f f' _ _ mf (λ a. more_each_more x vs f f' mf) (set_value s x (v ∷ []))

more_each : (x : List ℕ) (vs : List (List ℕ)) (f f' : Runner) → More f f' → More (each x vs f) (each x vs f')
more_each x [] f f' mf s = refl
more_each x (v ∷ vs) f f' mf s = more_local _ _ (more_bind f f' _ _ mf (λ a. more_each_more x vs f f' mf)) (push_local s x (v ∷ []))

more_bound : (bare : Bool) (x : List ℕ) (v : List (List ℕ)) (f f' : Runner) → More f f' → More (bound bare x v f) (bound bare x v f')
more_bound true x v f f' mf s = mf (set_value s x v)
more_bound false x v f f' mf s = more_local f f' mf (push_local s x v)

more_checked : (g : Bool) (f f' : Runner) → More f f' → More (checked g f) (checked g f')
more_checked true f f' mf s = mf s
more_checked false f f' mf s = more_before f f' (λ a. check) mf s

-- ** all forms, with more turns

module _ (m n : ℕ) (le : m ≤ n) (call call' : Caller) (more_call : (slots : Slots) (d : Node cmd) → More (call slots d) (call' slots d)) where
  more_called : (slots : Slots) (x : Called) → More (called_means call slots x) (called_means call' slots x)
  more_called slots Finished s = refl
  more_called slots (Body d) s = more_call slots d s
  more_called slots (BodyWith args d) s = more_local (call slots d) (call' slots d) (more_call slots d) (push_local s (codes "*") args)

  mutual
    more_cmd : (c : Node cmd) (g : Bool) (slots : Slots) → More (cmd_means c g call m slots) (cmd_means c g call' n slots)
    more_cmd Empty g slots s = refl
    more_cmd (Seq items) g slots s = more_items items g slots s
    more_cmd (Simple words) g slots s =
        more_bind (args_mean words call m slots []) (args_mean words call' n slots []) _ _ (more_args words slots []) (λ v.
        more_after (expanded v) _ _ (λ w.
        more_checked g _ _ (more_after (run_words slots (word_texts w)) _ _ (λ x. more_called slots x)))) s
    more_cmd (Assign pairs d) g slots s = more_pairs pairs (is_empty d) _ _ (more_cmd d g slots) slots s
    more_cmd (Redirect redirs d) g slots s = more_redirs redirs (cmd_means d g call m) (cmd_means d g call' n) (more_cmd d g) slots s
    more_cmd (Pipeline stages last) g slots s =
        more_after (start_stages slots stages) _ _ (λ st. more_piped slots (cmd_means last g call m) (cmd_means last g call' n) (more_cmd last g) st) s
    more_cmd (AndOr first links) g slots s =
        more_bind (cmd_means first (guards links g) call m slots) (cmd_means first (guards links g) call' n slots) _ _
        (more_cmd first (guards links g) slots) (λ a. more_links links g slots) s
    more_cmd (Not d) g slots s = more_before (cmd_means d true call m slots) (cmd_means d true call' n slots) _ (more_cmd d true slots) s
    more_cmd (Subshell d) g slots s = less_same (subshell slots d s)
    more_cmd (If test d) g slots s = more_bind (cmd_means test true call m slots) (cmd_means test true call' n slots) _ _ (more_cmd test true slots) (λ a. more_if _ _ (more_cmd d g slots)) s
    more_cmd (IfNot d) g slots s = more_if_not _ _ (more_cmd d g slots) s
    more_cmd (While test d) g slots s = more_turns _ _ _ _ (more_condition (has_no_items test) _ _ (more_cmd test true slots)) (more_cmd d g slots) m n le s
    more_cmd (ForAll name d) g slots s =
        more_after (value_words slots (written (codes "*") false ∷ [])) _ _ (λ v.
        more_bind (arg_means name call m slots) (arg_means name call' n slots) _ _ (more_arg name slots) (λ x.
        more_after (variable slots x) _ _ (λ y. more_each y (word_texts v) _ _ (more_cmd d g slots)))) s
    more_cmd (For name words d) g slots s =
        more_bind (args_mean words call m slots []) (args_mean words call' n slots []) _ _ (more_args words slots []) (λ v.
        more_after (expanded v) _ _ (λ w.
        more_bind (arg_means name call m slots) (arg_means name call' n slots) _ _ (more_arg name slots) (λ x.
        more_after (variable slots x) _ _ (λ y. more_each y (word_texts w) _ _ (more_cmd d g slots))))) s
    more_cmd (Switch word branches) g slots s =
        more_bind (arg_means word call m slots) (arg_means word call' n slots) _ _ (more_arg word slots) (λ v. more_branches branches g (subject v) slots) s
    more_cmd (Match word patterns) g slots s =
        more_bind (arg_means word call m slots) (arg_means word call' n slots) _ _ (more_arg word slots) (λ v.
        more_before (args_mean patterns call m slots []) (args_mean patterns call' n slots []) _ (more_args patterns slots [])) s
    more_cmd (Define names d) g slots s = more_before (args_mean names call m slots []) (args_mean names call' n slots []) _ (more_args names slots []) s
    more_cmd (Undefine names) g slots s = more_before (args_mean names call m slots []) (args_mean names call' n slots []) _ (more_args names slots []) s
    more_cmd (Brace d) g slots s = more_cmd d g slots s

    more_arg : (a : Node arg) (slots : Slots) → More (arg_means a call m slots) (arg_means a call' n slots)
    more_arg (Lit text quoted) slots s = refl
    more_arg (Concat parts) slots s = more_parts parts slots s
    more_arg (Paren words) slots s = more_args words slots [] s
    more_arg (Var name) slots s = more_before (arg_means name call m slots) (arg_means name call' n slots) _ (more_arg name slots) s
    more_arg (Count name) slots s = more_before (arg_means name call m slots) (arg_means name call' n slots) _ (more_arg name slots) s
    more_arg (Flat name) slots s = more_before (arg_means name call m slots) (arg_means name call' n slots) _ (more_arg name slots) s
    more_arg (Sub name subscripts) slots s =
        more_bind (arg_means name call m slots) (arg_means name call' n slots) _ _ (more_arg name slots) (λ x.
        more_before (args_mean subscripts call m slots []) (args_mean subscripts call' n slots []) _ (more_args subscripts slots [])) s
    more_arg (Back d) slots s = less_same (back_words slots d s)

    more_args : (l : Many arg) (slots : Slots) (front : List Word) → More (args_mean l call m slots front) (args_mean l call' n slots front)
    more_args none slots front s = refl
    more_args (more a l) slots front s =
        more_bind (arg_means a call m slots) (arg_means a call' n slots) _ _ (more_arg a slots) (λ v. more_args l slots (front ++ v)) s

    more_parts : (l : Many arg) (slots : Slots) → More (parts_mean l call m slots) (parts_mean l call' n slots)
    more_parts none slots s = refl
    more_parts (more a l) slots s = more_bind (arg_means a call m slots) (arg_means a call' n slots) _ _ (more_arg a slots) (λ v. more_more_parts l slots v) s

    more_more_parts : (l : Many arg) (slots : Slots) (front : List Word) → More (more_parts_mean l call m slots front) (more_parts_mean l call' n slots front)
    more_more_parts none slots front s = refl
    more_more_parts (more a l) slots front s =
        more_bind (arg_means a call m slots) (arg_means a call' n slots) _ _ (more_arg a slots) (λ v.
        more_after (concat_words slots front v) _ _ (λ w. more_more_parts l slots w)) s

    more_items : (l : Many item) (g : Bool) (slots : Slots) → More (items_mean l g call m slots) (items_mean l g call' n slots)
    more_items none g slots s = refl
    more_items (more (Item c true) l) g slots s = more_after (background slots c) _ _ (λ a. more_items l g slots) s
    more_items (more (Item c false) l) g slots s = more_bind (cmd_means c g call m slots) (cmd_means c g call' n slots) _ _ (more_cmd c g slots) (λ a. more_items l g slots) s

    more_pairs : (l : Many pair) (bare : Bool) (f f' : Runner) → More f f' → (slots : Slots) → More (pairs_mean l bare f call m slots) (pairs_mean l bare f' call' n slots)
    more_pairs none bare f f' mf slots s = mf s
    more_pairs (more (Pair name value) l) bare f f' mf slots s =
        more_bind (arg_means name call m slots) (arg_means name call' n slots) _ _ (more_arg name slots) (λ x.
        more_bind (arg_means value call m slots) (arg_means value call' n slots) _ _ (more_arg value slots) (λ v.
        more_after (expanded v) _ _ (λ w.
        more_after (variable slots x) _ _ (λ y. more_bound bare y (word_texts w) _ _ (more_pairs l bare f f' mf slots))))) s

    more_redirs : (l : Many redir) (f f' : Slots → Runner) → ((slots : Slots) → More (f slots) (f' slots)) → (slots : Slots)
        → More (redirs_mean l f call m slots) (redirs_mean l f' call' n slots)
    more_redirs none f f' mf slots s = mf slots s
    more_redirs (more (Open mode slot path) l) f f' mf slots s =
        more_bind (arg_means path call m slots) (arg_means path call' n slots) _ _ (more_arg path slots) (λ v.
        more_after (expanded v) _ _ (λ w.
        more_after (open_one slots mode (word_texts w)) _ _ (λ h. more_file h _ _ (more_redirs l f f' mf (with_slot slots slot (to_file h)))))) s
    more_redirs (more (Copy to from) l) f f' mf slots s = more_redirs l f f' mf (with_slot slots to (slot_of slots from)) s
    more_redirs (more (Here pieces) l) f f' mf slots s =
        more_after (open_here slots pieces) _ _ (λ h. more_file h _ _ (more_redirs l f f' mf (with_slot slots 0 (to_file h)))) s

    more_links : (l : Many link) (g : Bool) (slots : Slots) → More (links_mean l g call m slots) (links_mean l g call' n slots)
    more_links none g slots s = refl
    more_links (more (Link logic c) l) g slots s =
        more_bind (linked logic (cmd_means c (guards l g) call m slots)) (linked logic (cmd_means c (guards l g) call' n slots)) _ _
        (more_linked logic _ _ (more_cmd c (guards l g) slots)) (λ a. more_links l g slots) s

    more_branches : (l : Many branch) (g : Bool) (v : List Word) (slots : Slots) → More (branches_mean l g v call m slots) (branches_mean l g v call' n slots)
    more_branches none g v slots s = refl
    more_branches (more (Branch patterns d) l) g v slots s =
        more_bind (args_mean patterns call m slots []) (args_mean patterns call' n slots []) _ _ (more_args patterns slots []) (λ ps.
        more_if_so (matched v ps) _ _ _ _ (more_cmd d g slots) (more_branches l g v slots)) s

-- with more turns
more_meaning : (m n : ℕ) → m ≤ n → (slots : Slots) (c : Node cmd) → More (meaning m slots c) (meaning n slots c)
more_meaning zero zero le slots c = more_cmd zero zero le (λ slots d. stops) (λ slots d. stops) (λ slots d s. tt) c false slots
more_meaning zero (suc n) le slots c = more_cmd zero (suc n) le (λ slots d. stops) (meaning n) (λ slots d s. tt) c false slots
more_meaning (suc m) zero le slots c = absurd (omega arith)
more_meaning (suc m) (suc n) le slots c = more_cmd (suc m) (suc n) le (meaning m) (meaning n) (λ slots d. more_meaning m n (omega arith) slots d) c false slots

-- no outcome of a script but a cut one changes with more turns, and the calls of a cut one are the first of them
pub turns_go_on : (c : Node cmd) (s : State) (given : List Answer) → (n m : ℕ) → n ≤ m → Within (script n c s given) (script m c s given)
turns_go_on c s given n m le =
    less_plays (whole n c s) (whole m c s) given (
    less_under (meaning n plain c s) (meaning m plain c s) _ _ waits (more_meaning n m le plain c s) (λ a s1. refl))
