-- The machine follows the meaning, form by form.
use Rattle.std.proofs.Common.{◌≡◌, ℕ, zero, suc, ◌+◌, ◌≤◌, List, [], ◌∷◌, ◌++◌, Some, refl, subst, arith}
use Rattle.std.specs.Prelude.{slice_get, Bool, true, false, codes, None}
use Rattle.rc_model.specs.Syntax.Words.{Word, written, word_texts, subject}
use Rattle.rc_model.specs.Run.Calls.{to_file, slot_of, with_slot}
use Rattle.rc_model.specs.declared.call.Slots.{Slots}
use Rattle.rc_model.specs.Syntax.Tree.{is_empty, has_no_items, guards, Node, Many, cmd, arg, item, pair, redir, link, branch, none, more, count}
use Rattle.rc_model.specs.Syntax.Tree.{Empty, Seq, Simple, Assign, Redirect, Pipeline, AndOr, Not, Subshell, If, IfNot, While, ForAll, For, Switch}
use Rattle.rc_model.specs.Syntax.Tree.{Match, Define, Undefine, Brace, Lit, Concat, Paren, Var, Count, Flat, Sub, Back, Item, Pair, Open, Copy, Here}
use Rattle.rc_model.specs.Syntax.Tree.{Link, Branch}
use Rattle.rc_model.specs.Run.Plans.{Plan}
use Rattle.rc_model.specs.Run.State.{State, set_value, push_local, with_status, inverted, undefine}
use Rattle.rc_model.specs.Run.Shell.{under, leaves, stops}
use Rattle.rc_model.specs.Run.FileNames.{expanded}
use Rattle.rc_model.specs.Run.Acts.{check, variable, value_words, count_words, flat_words, selected_words, concat_words, match_status, define_each}
use Rattle.rc_model.specs.Run.Acts.{open_one, open_here, subshell, background, back_words}
use Rattle.rc_model.specs.Run.Builtins.{run_words}
use Rattle.rc_model.specs.Run.Meaning.{checked, called_means, Runner, Caller, cmd_means, arg_means, args_mean, parts_mean, more_parts_mean}
use Rattle.rc_model.specs.Run.Meaning.{items_mean, pairs_mean, redirs_mean, links_mean, branches_mean, meaning}
use Rattle.rc_model.specs.Code.Layout.{run_code, Check, Part, Nothing, Do, ◌⨾◌, KeptTree, KeptPieces, cmd_code, arg_code, args_code, parts_code}
use Rattle.rc_model.specs.Code.Layout.{more_parts_code, items_code, pairs_code, redirs_code, links_code, branches_code, unlocal, code, Nil, Join}
use Rattle.rc_model.specs.Code.Layout.{Glob, Value, Select, Drop, Invert, Local, Unlocal, Unredir, Background}
use Rattle.rc_model.specs.Code.Layout as op
use Rattle.rc_model.specs.Code.Machine.{Config, Scope, InLocal, InRedirection, Step, goes, end_locals, end_redirs}
use Rattle.law_machine.proofs.Place.{stands_first, stands_code}
use Rattle.law_machine.proofs.Run.{Point, at, mid, Comes, Runs, does, runs_at, settle_runs, leads_comes, comes_same}
use Rattle.law_machine.proofs.Legs.{Words, spot, before, afterwards, Leg, Does, leg_then, leg_nothing, leg_do, leg_keep, leg_pure, leg_at, leg_first}
use Rattle.law_machine.proofs.Legs.{leg_last, comes_op, puts_runs, acts_runs, tree_runs, pieces_runs}
use Rattle.law_machine.proofs.Forms.{Acts, leg_local, leg_file, leg_copied, body, end_of, CallsRun, run_leg, if_leg, if_not_leg, link_leg}
use Rattle.law_machine.proofs.Forms.{condition_leg, branch_leg, while_leg, looping, each_leg, piping, pipe_leg}

-- ** single instructions

module _ (n : ℕ) (c : Config) (words : Words) where
  -- the names of the files that the list on top stands for
  pub glob_leg : (v : List Word) → Does n c (Do Glob) (v ∷ words) (λ w. w ∷ words) (expanded v)
  glob_leg v = leg_do c (v ∷ words) Glob (λ p s. puts_runs c p (v ∷ words) words (expanded v) s)

  -- the value of the name on top
  pub value_leg : (x : List Word) → Does n c (Do Value) (x ∷ words) (λ v. v ∷ words) (value_words c.slots x)
  value_leg x = leg_do c (x ∷ words) Value (λ p s. puts_runs c p (x ∷ words) words (value_words c.slots x) s)

  -- a loop is opened
  pub for_leg : (v x : List Word)
      → Leg n c.code (Do op.For) (before c (x ∷ v ∷ words)) (λ p y s. at (spot (looping n c y (word_texts v) false) p words s)) c.scopes (variable c.slots x)
  for_leg v x = leg_do c (x ∷ v ∷ words) op.For (λ p s. settle_runs (variable c.slots x s) _ (λ y s1. runs_at y s1))

-- ** names and files

-- assignments around a part: bare ones, and k others around these, which end in the instruction that ends all
abbrev BarePairs : ℕ → Config → (Part → Part) → (Runner → Runner) → Type 0
BarePairs n c wrap mean = (inner : Part) (to : ℕ → Unit {0} → State → Point) (m : Runner)
    → Leg n c.code inner (before c c.words) to c.scopes m → Leg n c.code (wrap inner) (before c c.words) to c.scopes (mean m)

-- k locals end, and then the place is p
abbrev end_k_locals : Config → ℕ → List Scope → ℕ → State → Plan Step
end_k_locals c k scopes p s = end_locals k scopes s (λ scopes s. goes (record (spot c p c.words s) { scopes = scopes }))

abbrev LocalPairs : ℕ → Config → ℕ → (Part → Part) → (Runner → Runner) → Type 0
LocalPairs n c count wrap mean = (all k : ℕ) → all ≡ count + k → (inner : Part) (m : Runner)
    → ((scopes : List Scope) → Leg n c.code inner (before (record c { scopes = scopes }) c.words) (λ p a s. mid (end_k_locals c all scopes p s)) scopes m)
    → Leg n c.code (wrap inner) (before c c.words) (λ p a s. mid (end_k_locals c k c.scopes p s)) c.scopes (mean m)

-- the body of an assignment, and the end of its locals
assign_leg : (n : ℕ) (c : Config) (bare : Bool) (count : ℕ) (wrap : Bool → Part → Part) (mean : Bool → Runner → Runner) (part : Part) (m : Runner)
    → BarePairs n c (wrap true) (mean true) → LocalPairs n c count (wrap false) (mean false)
    → ((scopes : List Scope) → Acts n (record c { scopes = scopes }) part m)
    → Acts n c (wrap bare (part ⨾ unlocal bare count)) (mean bare m)
assign_leg n c true count wrap mean part m bare local l =
    bare (part ⨾ Nothing) (afterwards c (λ a. c.words)) m (leg_last (l c.scopes) (λ p k h x s.
    let e : p ≡ p + 0 = omega arith in
    subst (λ q. Comes (at (spot c p c.words s)) (at (spot c q c.words s))) e (comes_same (at (spot c p c.words s)))))
assign_leg n c false count wrap mean part m bare local l =
    local count 0 (omega arith) (part ⨾ Do (Unlocal count)) m (λ scopes.
    leg_last (l scopes) (λ p k h x s. leads_comes (does (spot (record c { scopes = scopes }) p c.words s) (Unlocal count) h.0.0)))

-- k redirections end, and then the place is p
abbrev end_k_redirs : Config → ℕ → List Scope → Slots → ℕ → State → Plan Step
end_k_redirs c k scopes slots p s = end_redirs k scopes slots (λ scopes slots. goes (record (spot c p c.words s) { scopes = scopes; slots = slots }))

-- a simple command, and its check
checked_leg : (n m : ℕ) (le : n ≤ suc m) (call : Caller) (calls_run : CallsRun m call) (g : Bool) (c : Config) (w : List Word)
    → Does n c (run_code g) (w ∷ c.words) (λ a. c.words) (checked g (λ s. under (run_words c.slots (word_texts w) s) (called_means call c.slots) leaves))
checked_leg n m le call calls_run true c w = run_leg n m le call calls_run c c.words w
checked_leg n m le call calls_run false c w = leg_then (run_leg n m le call calls_run c c.words w) (λ a. leg_do c c.words Check (λ p s. acts_runs c p c.words c.words check s))

-- ** all forms

module _ (n m : ℕ) (le : n ≤ suc m) (call : Caller) (calls_run : CallsRun m call) where
  mutual
    cmd_leg : (d : Node cmd) (g : Bool) (c : Config) → Acts n c (cmd_code d g) (cmd_means d g call n c.slots)
    cmd_leg Empty g c = leg_nothing
    cmd_leg (Seq items) g c = items_leg items g c
    cmd_leg (Simple words) g c =
        leg_first c c.words ([] ∷ c.words) Nil _ (λ p s. refl) (
        leg_then (args_leg words c c.words []) (λ v.
        leg_then (glob_leg n c c.words v) (λ w.
        checked_leg n m le call calls_run g c w)))
    cmd_leg (Assign pairs d) g c =
        assign_leg n c (is_empty d) (count pairs) (pairs_code pairs) (λ bare m. pairs_mean pairs bare m call n c.slots) (cmd_code d g) (cmd_means d g call n c.slots)
        (bare_leg pairs c) (local_leg pairs c) (λ scopes. cmd_leg d g (record c { scopes = scopes }))
    cmd_leg (Redirect redirs d) g c =
        redirs_leg redirs c (count redirs) 0 (omega arith) (cmd_code d g ⨾ Do (Unredir (count redirs))) (cmd_means d g call n) (λ scopes slots.
        leg_last (cmd_leg d g (record c { scopes = scopes; slots = slots })) (λ p k h x s.
        leads_comes (does (spot (record c { scopes = scopes; slots = slots }) p c.words s) (Unredir (count redirs)) h.0.0)))
    cmd_leg (Pipeline stages last) g c = pipe_leg n c stages (cmd_code last g) (cmd_means last g call n) (λ read_end children. cmd_leg last g (piping n c read_end children))
    cmd_leg (AndOr first links) g c = leg_then (cmd_leg first (guards links g) c) (λ a. links_leg links g c)
    cmd_leg (Not d) g c = leg_then (cmd_leg d true c) (λ a. leg_do c c.words Invert (λ p s. runs_at tt (inverted s)))
    cmd_leg (Subshell d) g c =
        leg_keep c c.words op.Subshell (KeptTree d) (λ p k s h. tree_runs (spot c p c.words s) (slice_get c.code.kept k) d _ h (acts_runs c p c.words c.words (subshell c.slots d) s))
    cmd_leg (If test d) g c = leg_then (cmd_leg test true c) (λ a. if_leg n c (cmd_code d g) (cmd_means d g call n c.slots) (cmd_leg d g c))
    cmd_leg (IfNot d) g c = if_not_leg n c (cmd_code d g) (cmd_means d g call n c.slots) (cmd_leg d g c)
    cmd_leg (While test d) g c =
        while_leg n c _ _ _ _ (condition_leg n c (has_no_items test) (cmd_code test true) (cmd_means test true call n c.slots) (cmd_leg test true c)) (cmd_leg d g c)
    cmd_leg (ForAll name d) g c =
        let star = written (codes "*") false ∷ [] in
        leg_first c c.words (star ∷ c.words) (op.Word (codes "*") false) _ (λ p s. refl) (
        leg_then (value_leg n c c.words star) (λ v.
        leg_then (arg_leg name c (v ∷ c.words)) (λ x.
        leg_then (for_leg n c c.words v x) (λ y.
        each_leg n c y (word_texts v) (cmd_code d g) (cmd_means d g call n c.slots) (λ vs. cmd_leg d g (looping n c y vs true))))))
    cmd_leg (For name words d) g c =
        leg_first c c.words ([] ∷ c.words) Nil _ (λ p s. refl) (
        leg_then (args_leg words c c.words []) (λ v.
        leg_then (glob_leg n c c.words v) (λ w.
        leg_then (arg_leg name c (w ∷ c.words)) (λ x.
        leg_then (for_leg n c c.words w x) (λ y.
        each_leg n c y (word_texts w) (cmd_code d g) (cmd_means d g call n c.slots) (λ vs. cmd_leg d g (looping n c y vs true)))))))
    cmd_leg (Switch word branches) g c =
        leg_then (arg_leg word c c.words) (λ v.
        leg_first c (v ∷ c.words) (subject v ∷ c.words) op.Subject _ (λ p s. refl) (
        leg_last (branches_leg branches g c c.words (subject v)) (λ p k h x s. comes_op c Drop (subject v ∷ c.words) c.words s s p k h refl)))
    cmd_leg (Match word patterns) g c =
        leg_then (arg_leg word c c.words) (λ v.
        leg_first c (v ∷ c.words) (subject v ∷ c.words) op.Subject _ (λ p s. refl) (
        leg_first c (subject v ∷ c.words) ([] ∷ subject v ∷ c.words) Nil _ (λ p s. refl) (
        leg_then (args_leg patterns c (subject v ∷ c.words) []) (λ ps.
        leg_do c (ps ∷ subject v ∷ c.words) op.Match (λ p s. runs_at tt (with_status s (match_status (subject v) ps)))))))
    cmd_leg (Define names d) g c =
        leg_first c c.words ([] ∷ c.words) Nil _ (λ p s. refl) (
        leg_then (args_leg names c c.words []) (λ v.
        leg_keep c (v ∷ c.words) op.Define (KeptTree d) (λ p k s h.
        tree_runs (spot c p (v ∷ c.words) s) (slice_get c.code.kept k) d _ h (acts_runs c p (v ∷ c.words) c.words (define_each c.slots (word_texts v) d) s))))
    cmd_leg (Undefine names) g c =
        leg_first c c.words ([] ∷ c.words) Nil _ (λ p s. refl) (
        leg_then (args_leg names c c.words []) (λ v.
        leg_do c (v ∷ c.words) op.Undefine (λ p s. runs_at tt (undefine s (word_texts v)))))
    cmd_leg (Brace d) g c = cmd_leg d g c

    arg_leg : (a : Node arg) (c : Config) (words : Words) → Does n c (arg_code a) words (λ v. v ∷ words) (arg_means a call n c.slots)
    arg_leg (Lit text quoted) c words = leg_do c words (op.Word text quoted) (λ p s. runs_at (written text quoted ∷ []) s)
    arg_leg (Concat parts) c words = parts_leg parts c words
    arg_leg (Paren list) c words = leg_first c words ([] ∷ words) Nil _ (λ p s. refl) (args_leg list c words [])
    arg_leg (Var name) c words = leg_then (arg_leg name c words) (λ x. value_leg n c words x)
    arg_leg (Count name) c words =
        leg_then (arg_leg name c words) (λ x. leg_do c (x ∷ words) op.Count (λ p s. puts_runs c p (x ∷ words) words (count_words c.slots x) s))
    arg_leg (Flat name) c words =
        leg_then (arg_leg name c words) (λ x. leg_do c (x ∷ words) op.Flat (λ p s. puts_runs c p (x ∷ words) words (flat_words c.slots x) s))
    arg_leg (Sub name subscripts) c words =
        leg_then (arg_leg name c words) (λ x.
        leg_first c (x ∷ words) ([] ∷ x ∷ words) Nil _ (λ p s. refl) (
        leg_then (args_leg subscripts c (x ∷ words) []) (λ v.
        leg_do c (v ∷ x ∷ words) op.Select (λ p s. puts_runs c p (v ∷ x ∷ words) words (selected_words c.slots x v) s))))
    arg_leg (Back d) c words =
        leg_keep c words op.Back (KeptTree d) (λ p k s h. tree_runs (spot c p words s) (slice_get c.code.kept k) d _ h (puts_runs c p words words (back_words c.slots d) s))

    args_leg : (l : Many arg) (c : Config) (words : Words) (front : List Word)
        → Does n c (args_code l) (front ∷ words) (λ v. v ∷ words) (args_mean l call n c.slots front)
    args_leg none c words front = leg_pure front
    args_leg (more a l) c words front =
        leg_then (arg_leg a c (front ∷ words)) (λ v.
        leg_first c (v ∷ front ∷ words) ((front ++ v) ∷ words) Join _ (λ p s. refl) (args_leg l c words (front ++ v)))

    parts_leg : (l : Many arg) (c : Config) (words : Words) → Does n c (parts_code l) words (λ v. v ∷ words) (parts_mean l call n c.slots)
    parts_leg none c words = leg_do c words Nil (λ p s. runs_at [] s)
    parts_leg (more a l) c words = leg_then (arg_leg a c words) (λ v. more_parts_leg l c words v)

    more_parts_leg : (l : Many arg) (c : Config) (words : Words) (front : List Word)
        → Does n c (more_parts_code l) (front ∷ words) (λ v. v ∷ words) (more_parts_mean l call n c.slots front)
    more_parts_leg none c words front = leg_pure front
    more_parts_leg (more a l) c words front =
        leg_then (arg_leg a c (front ∷ words)) (λ v.
        leg_then (leg_do c (v ∷ front ∷ words) op.Concat (λ p s. puts_runs c p (v ∷ front ∷ words) words (concat_words c.slots front v) s)) (λ w.
        more_parts_leg l c words w))

    items_leg : (l : Many item) (g : Bool) (c : Config) → Acts n c (items_code l g) (items_mean l g call n c.slots)
    items_leg none g c = leg_nothing
    items_leg (more (Item d true) l) g c =
        leg_then (leg_keep c c.words Background (KeptTree d) (λ p k s h. tree_runs (spot c p c.words s) (slice_get c.code.kept k) d _ h (acts_runs c p c.words c.words (background c.slots d) s)))
        (λ a. items_leg l g c)
    items_leg (more (Item d false) l) g c = leg_then (cmd_leg d g c) (λ a. items_leg l g c)

    links_leg : (l : Many link) (g : Bool) (c : Config) → Acts n c (links_code l g) (links_mean l g call n c.slots)
    links_leg none g c = leg_nothing
    links_leg (more (Link logic d) l) g c = leg_then (link_leg n c logic (cmd_code d (guards l g)) (cmd_means d (guards l g) call n c.slots) (cmd_leg d (guards l g) c)) (λ a. links_leg l g c)

    branches_leg : (l : Many branch) (g : Bool) (c : Config) (words : Words) (v : List Word)
        → Does n c (branches_code l g) (v ∷ words) (λ a. v ∷ words) (branches_mean l g v call n c.slots)
    branches_leg none g c words v = leg_nothing
    branches_leg (more (Branch patterns d) l) g c words v =
        leg_first c (v ∷ words) ([] ∷ v ∷ words) Nil _ (λ p s. refl) (
        leg_then (args_leg patterns c (v ∷ words) []) (λ ps.
        branch_leg n c words v ps (cmd_code d g) (branches_code l g) _ _ (cmd_leg d g (record c { words = v ∷ words })) (branches_leg l g c words v)))

    bare_leg : (l : Many pair) (c : Config) → BarePairs n c (pairs_code l true) (λ m. pairs_mean l true m call n c.slots)
    bare_leg none c inner to m l = l
    bare_leg (more (Pair name value) rest) c inner to m l =
        leg_then (arg_leg name c c.words) (λ x.
        leg_then (arg_leg value c (x ∷ c.words)) (λ v.
        leg_then (glob_leg n c (x ∷ c.words) v) (λ w.
        leg_then (leg_do c (w ∷ x ∷ c.words) op.Assign (λ p s. settle_runs (variable c.slots x s) _ (λ y s1. runs_at y s1))) (λ y.
        leg_at (λ s. set_value s y (word_texts w)) (bare_leg rest c inner to m l)))))

    local_leg : (l : Many pair) (c : Config) → LocalPairs n c (count l) (pairs_code l false) (λ m. pairs_mean l false m call n c.slots)
    local_leg none c all k e inner m l =
        let same : all ≡ k = omega (arith, e) in
        subst (λ x. Leg n c.code inner (before c c.words) (λ p a s. mid (end_k_locals c x c.scopes p s)) c.scopes m) same (l c.scopes)
    local_leg (more (Pair name value) rest) c all k e inner m l =
        let within = record c { scopes = InLocal ∷ c.scopes } in
        leg_then (arg_leg name c c.words) (λ x.
        leg_then (arg_leg value c (x ∷ c.words)) (λ v.
        leg_then (glob_leg n c (x ∷ c.words) v) (λ w.
        leg_then (leg_do {to = λ p y s. at (spot within p c.words (push_local s y (word_texts w)))} c (w ∷ x ∷ c.words) Local (λ p s. settle_runs (variable c.slots x s) _ (λ y s1. runs_at y s1)))
        (λ y.
        leg_at (λ s. push_local s y (word_texts w)) (
        leg_local {to = λ p a s. mid (end_k_locals c k c.scopes p s)} (local_leg rest within all (suc k) (omega (arith, e)) inner m l))))))

    redirs_leg : (l : Many redir) (c : Config) (all k : ℕ) → all ≡ count l + k → (inner : Part) (m : Slots → Runner)
        → ((scopes : List Scope) (slots : Slots)
        → Leg n c.code inner (before (record c { scopes = scopes; slots = slots }) c.words) (λ p a s. mid (end_k_redirs c all scopes slots p s)) scopes (m slots))
        → Leg n c.code (redirs_code l inner) (before c c.words) (λ p a s. mid (end_k_redirs c k c.scopes c.slots p s)) c.scopes (redirs_mean l m call n c.slots)
    redirs_leg none c all k e inner m l =
        let same : all ≡ k = omega (arith, e) in
        subst (λ x. Leg n c.code inner (before c c.words) (λ p a s. mid (end_k_redirs c x c.scopes c.slots p s)) c.scopes (m c.slots)) same (l c.scopes c.slots)
    redirs_leg (more (Open mode slot path) rest) c all k e inner m l =
        let within : ℕ → Config = λ h. record c { scopes = InRedirection (Some h) c.slots ∷ c.scopes; slots = with_slot c.slots slot (to_file h) } in
        leg_then (arg_leg path c c.words) (λ v.
        leg_then (glob_leg n c c.words v) (λ w.
        leg_then (leg_do {to = λ p h s. at (spot (within h) p c.words s)} c (w ∷ c.words) (op.Open mode slot) (λ p s. settle_runs (open_one c.slots mode (word_texts w) s) _ (λ h s1. runs_at h s1)))
        (λ h.
        leg_file h c.slots (end_k_redirs c k c.scopes c.slots) (redirs_leg rest (within h) all (suc k) (omega (arith, e)) inner m l))))
    redirs_leg (more (Copy to from) rest) c all k e inner m l =
        let within = record c { scopes = InRedirection None c.slots ∷ c.scopes; slots = with_slot c.slots to (slot_of c.slots from) } in
        leg_copied c within (op.Copy to from) (redirs_code rest inner) (λ p s. refl) (redirs_leg rest within all (suc k) (omega (arith, e)) inner m l)
    redirs_leg (more (Here pieces) rest) c all k e inner m l =
        let within : ℕ → Config = λ h. record c { scopes = InRedirection (Some h) c.slots ∷ c.scopes; slots = with_slot c.slots 0 (to_file h) } in
        leg_then (leg_keep {to = λ p h s. at (spot (within h) p c.words s)} c c.words op.Here (KeptPieces pieces) (λ p j s h.
        pieces_runs (spot c p c.words s) (slice_get c.code.kept j) pieces _ h (settle_runs (open_here c.slots pieces s) _ (λ h s1. runs_at h s1)))) (λ h.
        leg_file h c.slots (end_k_redirs c k c.scopes c.slots) (redirs_leg rest (within h) all (suc k) (omega (arith, e)) inner m l))

none_run : CallsRun zero (λ slots d. stops)
none_run d c s = record { by = (0, omega arith, refl) }

-- a command that is code of its own, from its first instruction to its Return
pub meaning_runs : (n : ℕ) (d : Node cmd) (c : Config) (s : State)
    → Runs n (at (spot (body c d) 0 c.words s)) (λ a s1. at (spot (body c d) (end_of d) c.words s1)) c.scopes (meaning n c.slots d s)
meaning_runs zero d c s =
    (cmd_leg zero zero (omega arith) (λ slots d. stops) none_run d false (body c d)).by 0 0 (stands_first (code d) 0 0 (cmd_code d false) (Do op.Return) (stands_code d)) s
meaning_runs (suc n) d c s =
    (cmd_leg (suc n) n (omega arith) (meaning n) (meaning_runs n) d false (body c d)).by 0 0 (stands_first (code d) 0 0 (cmd_code d false) (Do op.Return) (stands_code d)) s
