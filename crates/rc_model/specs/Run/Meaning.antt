-- The semantics of a command, by its tree alone.
use Rattle.std.specs.Prelude.{ℕ, zero, suc, List, [], ◌∷◌, ◌++◌, Bool, true, false, if◌then◌else◌, Option, codes}
use Rattle.rc_model.specs.Syntax.Words.{Word, written, word_texts, subject}
use Rattle.rc_model.specs.Run.Patterns.{matched}
use Rattle.rc_model.specs.Run.Calls.{Slots, to_file, slot_of, with_slot, close}
use Rattle.rc_model.specs.Run.Plans.{ask, done_with}
use Rattle.rc_model.specs.Syntax.Tree.{is_empty, has_no_items, guards, Node, Many, Logic, And, Or, cmd, arg, item, pair}
use Rattle.rc_model.specs.Syntax.Tree.{redir, link, branch, none, more, Empty, Seq, Simple, Assign, Redirect, Pipeline}
use Rattle.rc_model.specs.Syntax.Tree.{AndOr, Not, Subshell, If, IfNot, While, ForAll, For, Switch, Match, Define}
use Rattle.rc_model.specs.Syntax.Tree.{Undefine, Brace, Lit, Concat, Paren, Var, Count, Flat, Sub, Back, Item, Pair}
use Rattle.rc_model.specs.Syntax.Tree.{Open, Copy, Here, Link, Branch}
use Rattle.rc_model.specs.Run.State.{set_value, push_local, pop_local, with_flag, inverted, undefine, is_true}
use Rattle.rc_model.specs.Run.Shell.{Shell, Next, Exit, under, ◌>>=◌, ◌>>◌, pure, skip, change, stops}
use Rattle.rc_model.specs.Run.FileNames.{expanded}
use Rattle.rc_model.specs.Run.Acts.{check, set_status, closing, variable, value_words, count_words, flat_words}
use Rattle.rc_model.specs.Run.Acts.{selected_words, concat_words, match_status, define_each, open_one, open_here}
use Rattle.rc_model.specs.Run.Acts.{subshell, background, StartedStages, Running, Refused, start_stages, end_stages}
use Rattle.rc_model.specs.Run.Acts.{from_pipe, back_words}
use Rattle.rc_model.specs.Run.Builtins.{Called, Finished, Body, BodyWith, run_words}

-- what a command does
abbrev pub Runner : Type 0
Runner = Shell (Unit {0})

-- how the body of a call is run
abbrev pub Caller : Type 0
Caller = Slots → Node cmd → Runner

-- ** scopes: each ends with its command, even if the command ends the shell

-- a local
abbrev pub local_end : Runner → Runner
local_end m = λ s. under (m s) (λ a. change pop_local) (λ s owed. done_with (Exit (pop_local s) owed))

-- an open file
abbrev pub file_end : ℕ → Runner → Runner
file_end h m =
    λ s. under (m s) (λ a s. ask (close h) (λ b. done_with (Next tt s))) (λ s owed.
    ask (close h) (λ b. done_with (Exit s owed)))

-- the last stage of a pipeline
abbrev pub pipe_end : Option ℕ → List ℕ → Runner → Runner
pipe_end read_end children m =
    λ s. under (m s) (λ a. end_stages read_end children) (λ s owed.
    closing read_end (done_with (Exit s (owed ++ children))))

-- ** the semantics of the forms, given those of their parts

-- runs what the words of a simple command call
abbrev pub called_means : Caller → Slots → Called → Runner
called_means call slots Finished = skip
called_means call slots (Body c) = call slots c
called_means call slots (BodyWith args c) = do
  change (λ s. push_local s (codes "*") args)
  local_end (call slots c)

-- the first if the status is true, else the second
abbrev pub if_true : {A : Type 0} → Shell A → Shell A → Shell A
if_true m o = λ s. if is_true s.status then m s else o s

-- the command after `&&` runs if the status is true, the one after `||` if it isn't
abbrev pub linked : Logic → Runner → Runner
linked And m = if_true m skip
linked Or m = if_true skip m

-- a condition sets the flag for `if not`
abbrev pub if_means : Runner → Runner
if_means body = if_true (do body; change (λ s. with_flag s false)) (change (λ s. with_flag s true))

-- the body of `if not` runs if the flag is set
abbrev pub if_not_means : Runner → Runner
if_not_means body = λ s. if s.flag then body s else skip s

-- a condition with no items is true
abbrev pub condition : Bool → Runner → Runner
condition true test = set_status []
condition false test = test

-- at most n turns
abbrev pub turns : ℕ → Runner → Runner → Runner
turns zero test body = stops
turns (suc n) test body = do
  test
  if_true (do body; turns n test body) skip

-- the name gets each further member in turn
abbrev pub each_more : List ℕ → List (List ℕ) → Runner → Runner
each_more x [] body = skip
each_more x (v ∷ vs) body = do
  change (λ s. set_value s x (v ∷ []))
  body
  each_more x vs body

-- the name gets each member in turn; the first is bound as a local
abbrev pub each : List ℕ → List (List ℕ) → Runner → Runner
each x [] body = skip
each x (v ∷ vs) body = do
  change (λ s. push_local s x (v ∷ []))
  local_end (do body; each_more x vs body)

-- an assignment and the rest: it is a local of the rest unless it is bare
abbrev pub bound : (bare : Bool) → List ℕ → List (List ℕ) → Runner → Runner
bound true x v rest = do
  change (λ s. set_value s x v)
  rest
bound false x v rest = do
  change (λ s. push_local s x v)
  local_end rest

-- one of two, by a condition
abbrev pub if_so : Bool → Runner → Runner → Runner
if_so true m o = m
if_so false m o = o

-- the last stage, if the others were started
abbrev pub piped : Slots → (Slots → Runner) → StartedStages → Runner
piped slots last (Running read_end children) = pipe_end read_end children (last (from_pipe read_end slots))
piped slots last Refused = skip

-- ** the forms

-- outside of guarded places a command that fails ends a strict shell
abbrev pub checked : (guarded : Bool) → Runner → Runner
checked true m = m
checked false m = do
  m
  check

-- the semantics of each form, in guarded places or others, with these descriptors
abbrev mutual
  -- a command, each of whose loops makes at most n turns
  pub cmd_means : Node cmd → (guarded : Bool) → Caller → ℕ → Slots → Runner
  cmd_means Empty g call n slots = skip
  cmd_means (Seq items) g call n slots = items_mean items g call n slots
  cmd_means (Simple words) g call n slots = do
    v ← args_mean words call n slots []
    w ← expanded v
    checked g (run_words slots (word_texts w) >>= called_means call slots)
  cmd_means (Assign pairs body) g call n slots =
      pairs_mean pairs (is_empty body) (cmd_means body g call n slots) call n slots
  cmd_means (Redirect redirs body) g call n slots = redirs_mean redirs (cmd_means body g call n) call n slots
  cmd_means (Pipeline stages last) g call n slots = do
    st ← start_stages slots stages
    piped slots (cmd_means last g call n) st
  cmd_means (AndOr first links) g call n slots = do
    cmd_means first (guards links g) call n slots
    links_mean links g call n slots
  cmd_means (Not body) g call n slots = do
    cmd_means body true call n slots
    change inverted
  cmd_means (Subshell body) g call n slots = subshell slots body
  cmd_means (If test body) g call n slots = do
    cmd_means test true call n slots
    if_means (cmd_means body g call n slots)
  cmd_means (IfNot body) g call n slots = if_not_means (cmd_means body g call n slots)
  cmd_means (While test body) g call n slots =
      turns n (condition (has_no_items test) (cmd_means test true call n slots)) (cmd_means body g call n slots)
  cmd_means (ForAll name body) g call n slots = do
    v ← value_words slots (written (codes "*") false ∷ [])
    x ← arg_means name call n slots
    y ← variable slots x
    each y (word_texts v) (cmd_means body g call n slots)
  cmd_means (For name words body) g call n slots = do
    v ← args_mean words call n slots []
    w ← expanded v
    x ← arg_means name call n slots
    y ← variable slots x
    each y (word_texts w) (cmd_means body g call n slots)
  cmd_means (Switch word branches) g call n slots = do
    v ← arg_means word call n slots
    branches_mean branches g (subject v) call n slots
  cmd_means (Match word patterns) g call n slots = do
    v ← arg_means word call n slots
    ps ← args_mean patterns call n slots []
    set_status (match_status (subject v) ps)
  cmd_means (Define names body) g call n slots = do
    v ← args_mean names call n slots []
    define_each slots (word_texts v) body
  cmd_means (Undefine names) g call n slots = do
    v ← args_mean names call n slots []
    change (λ s. undefine s (word_texts v))
  cmd_means (Brace body) g call n slots = cmd_means body g call n slots

  -- an argument, which evaluates to words
  pub arg_means : Node arg → Caller → ℕ → Slots → Shell (List Word)
  arg_means (Lit text quoted) call n slots = pure (written text quoted ∷ [])
  arg_means (Concat parts) call n slots = parts_mean parts call n slots
  arg_means (Paren words) call n slots = args_mean words call n slots []
  arg_means (Var name) call n slots = do
    x ← arg_means name call n slots
    value_words slots x
  arg_means (Count name) call n slots = do
    x ← arg_means name call n slots
    count_words slots x
  arg_means (Flat name) call n slots = do
    x ← arg_means name call n slots
    flat_words slots x
  arg_means (Sub name subscripts) call n slots = do
    x ← arg_means name call n slots
    v ← args_mean subscripts call n slots []
    selected_words slots x v
  arg_means (Back body) call n slots = back_words slots body

  -- the words so far, and those of these arguments after them
  pub args_mean : Many arg → Caller → ℕ → Slots → List Word → Shell (List Word)
  args_mean none call n slots before = pure before
  args_mean (more a rest) call n slots before = do
    v ← arg_means a call n slots
    args_mean rest call n slots (before ++ v)

  -- the parts, joined from the left
  pub parts_mean : Many arg → Caller → ℕ → Slots → Shell (List Word)
  parts_mean none call n slots = pure []
  parts_mean (more a rest) call n slots = do
    v ← arg_means a call n slots
    more_parts_mean rest call n slots v

  -- what has been joined so far is joined with each further part
  pub more_parts_mean : Many arg → Caller → ℕ → Slots → List Word → Shell (List Word)
  more_parts_mean none call n slots before = pure before
  more_parts_mean (more a rest) call n slots before = do
    v ← arg_means a call n slots
    w ← concat_words slots before v
    more_parts_mean rest call n slots w

  -- the items in order
  pub items_mean : Many item → (guarded : Bool) → Caller → ℕ → Slots → Runner
  items_mean none g call n slots = skip
  items_mean (more (Item c true) rest) g call n slots = do
    background slots c
    items_mean rest g call n slots
  items_mean (more (Item c false) rest) g call n slots = do
    cmd_means c g call n slots
    items_mean rest g call n slots

  -- assignments, each around those after it, and the body within
  pub pairs_mean : Many pair → (bare : Bool) → Runner → Caller → ℕ → Slots → Runner
  pairs_mean none bare body call n slots = body
  pairs_mean (more (Pair name value) rest) bare body call n slots = do
    x ← arg_means name call n slots
    v ← arg_means value call n slots
    w ← expanded v
    y ← variable slots x
    bound bare y (word_texts w) (pairs_mean rest bare body call n slots)

  -- redirections, each around those after it, and the body within
  pub redirs_mean : Many redir → (Slots → Runner) → Caller → ℕ → Slots → Runner
  redirs_mean none body call n slots = body slots
  redirs_mean (more (Open mode slot path) rest) body call n slots = do
    v ← arg_means path call n slots
    w ← expanded v
    h ← open_one slots mode (word_texts w)
    file_end h (redirs_mean rest body call n (with_slot slots slot (to_file h)))
  redirs_mean (more (Copy to from) rest) body call n slots =
      redirs_mean rest body call n (with_slot slots to (slot_of slots from))
  redirs_mean (more (Here pieces) rest) body call n slots = do
    h ← open_here slots pieces
    file_end h (redirs_mean rest body call n (with_slot slots 0 (to_file h)))

  -- the further operands of `&&` and `||`, in order
  pub links_mean : Many link → (guarded : Bool) → Caller → ℕ → Slots → Runner
  links_mean none g call n slots = skip
  links_mean (more (Link logic c) rest) g call n slots = do
    linked logic (cmd_means c (guards rest g) call n slots)
    links_mean rest g call n slots

  -- the body of the first branch that matches
  pub branches_mean : Many branch → (guarded : Bool) → List Word → Caller → ℕ → Slots → Runner
  branches_mean none g subject call n slots = skip
  branches_mean (more (Branch patterns body) rest) g subject call n slots = do
    ps ← args_mean patterns call n slots []
    if_so (matched subject ps) (cmd_means body g call n slots) (branches_mean rest g subject call n slots)

-- a command, if each loop makes at most n turns and the body of a call n - 1
abbrev pub meaning : ℕ → Slots → Node cmd → Runner
meaning zero slots c = cmd_means c false (λ slots d. stops) zero slots
meaning (suc n) slots c = cmd_means c false (meaning n) (suc n) slots
