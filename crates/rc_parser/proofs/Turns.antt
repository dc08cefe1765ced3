-- One turn of a loop of the descent.
use Rattle.std.proofs.Common.{◌≡◌, ℕ, zero, suc, ◌+◌, ◌-◌, ◌<◌, ◌≤◌, Bool, true, false, if◌then◌else◌, List, ◌∷◌, length, None, Ok, Err, refl, sym, ◌∙◌, ap, arith}
use Rattle.std.proofs.lemmas.Grind.{common_steps}
use Rattle.rc_model.specs.Syntax.Tokens as model
use Rattle.rc_model.specs.Syntax.Tree.{Node, Many, none, more, snoc}
use Rattle.rc_model.specs.Syntax.Tree as t
use Rattle.rc_model.specs.Syntax.Grammar.{begins_arg, begins_redir, begins_command, begins_bar, begins_link, past_blanks, past_caret, after_caret, ends, is_case, redirect}
use Rattle.rc_model.specs.Mirrors.Descent as d
use Rattle.rc_model.specs.Mirrors.Descent.{Reader, Readers, ◌>>=◌}
use Rattle.rc_tree.specs.View.{nodes_push, tree_Simple}
use Rattle.rc_tree.proofs.Assigned.{assignments}
use Rattle.rc_model.specs.declared.fault.InputError.TheVariants as error
use Rattle.rc_parser.specs.Results.{Fails, TokenError}
use Rattle.rc_parser.specs.Reading.{made, simple_after}
use Rattle.rc_parser.proofs.Steps.{levels, read_part}
use Rattle.law_syntax.proofs.Completeness.{links_stop}
use Rattle.law_syntax.proofs.CompletenessOfPipelines.{pipe_stops}
use Rattle.rc_model.specs.declared.fault.DescentFault.TheVariants as descent

one_less : (turns i : ℕ) → i < turns → turns - i ≡ suc (turns - (i + 1))
one_less turns i h = omega arith

none_left : (turns i : ℕ) → turns ≤ i → turns - i ≡ 0
none_left turns i h = omega arith

all_left : (turns : ℕ) (ts : List model.Lexeme) → turns ≡ length ts → length ts ≡ turns - 0
all_left turns ts h = omega arith

pub parts_start : (p : Reader (Node t.arg)) (inside : Bool) (turns : ℕ) (ts : List model.Lexeme) → turns ≡ length ts → d.parts_by p inside ts ≡ d.parts_from p inside (turns - 0) none ts
unfolding d.parts_by
parts_start p inside turns ts h = ap (λ k. d.parts_from p inside k none ts) (all_left turns ts h)

pub parts_more : (p : Reader (Node t.arg)) (inside : Bool) (turns i : ℕ) (front : Many t.arg) (ts : List model.Lexeme) → i < turns → d.parts_from p inside (turns - i) front ts ≡ d.parts_turn p inside (λ as' u. d.parts_from p inside (turns - (i + 1)) as' u) front ts (after_caret (past_blanks inside ts))
unfolding d.parts_from
parts_more p inside turns i front ts h = ap (λ k. d.parts_from p inside k front ts) (one_less turns i h)

pub parts_done : (p : Reader (Node t.arg)) (inside : Bool) (turns i : ℕ) (front : Many t.arg) (ts : List model.Lexeme) → turns ≤ i → d.parts_from p inside (turns - i) front ts ≡ Ok (front, ts)
unfolding d.parts_from
parts_done p inside turns i front ts h = ap (λ k. d.parts_from p inside k front ts) (none_left turns i h)

-- no part follows where no caret does
pub parts_alone : (p : Reader (Node t.arg)) (inside : Bool) (ts : List model.Lexeme) → after_caret (past_blanks inside ts) ≡ None → d.parts_by p inside ts ≡ Ok (none, ts)
unfolding d.parts_by d.parts_from
parts_alone p inside ts h = by (length ts)
  where
    by : (turns : ℕ) → d.parts_from p inside turns none ts ≡ Ok (none, ts)
    by zero = refl
    by (suc turns) = ap (λ q. d.parts_turn p inside (λ as' u. d.parts_from p inside turns as' u) none ts q) h

-- a word without a caret after it is an argument by itself
pub lone_word : (left : ℕ) (inside : Bool) (text : List ℕ) (ts rest : List model.Lexeme) → 0 < left → ts ≡ model.Word text ∷ rest → after_caret (past_blanks inside rest) ≡ None →
    d.arg_by (d.read left (d.a_part inside)) inside ts ≡ Ok (t.Lit text false, rest)
unfolding d.arg_by d.part_by
lone_word left inside text ts rest level is h =
    rw (is, read_part left inside (model.Word text ∷ rest) level, parts_alone (d.read left (d.a_part inside)) inside rest h) refl

pub ruleset alone = (parts_alone, common_steps)

pub ruleset parts = (parts_start, parts_more, parts_done, nodes_push, common_steps)

pub words_start : (p : Reader (Node t.arg)) (turns : ℕ) (ts : List model.Lexeme) → turns ≡ length ts → d.words_by p ts ≡ d.words_from p (turns - 0) none ts
unfolding d.words_by
words_start p turns ts h = ap (λ k. d.words_from p k none ts) (all_left turns ts h)

pub words_more : (p : Reader (Node t.arg)) (turns i : ℕ) (front : Many t.arg) (ts : List model.Lexeme) → i < turns → d.words_from p (turns - i) front ts ≡ (if begins_arg ts then (d.arg_by p false ts >>= λ a. d.words_from p (turns - (i + 1)) (snoc front a.0) a.1) else Ok (front, ts))
unfolding d.words_from
words_more p turns i front ts h = ap (λ k. d.words_from p k front ts) (one_less turns i h)

pub words_done : (p : Reader (Node t.arg)) (turns i : ℕ) (front : Many t.arg) (ts : List model.Lexeme) → turns ≤ i → d.words_from p (turns - i) front ts ≡ Ok (front, ts)
unfolding d.words_from
words_done p turns i front ts h = ap (λ k. d.words_from p k front ts) (none_left turns i h)

pub ruleset words = (words_start, words_more, words_done, nodes_push, common_steps)

pub redirs_start : (p : Reader (Node t.arg)) (turns : ℕ) (ts : List model.Lexeme) → turns ≡ length ts → d.redirs_by p ts ≡ d.redirs_from p (turns - 0) none ts
unfolding d.redirs_by
redirs_start p turns ts h = ap (λ k. d.redirs_from p k none ts) (all_left turns ts h)

pub redirs_more : (p : Reader (Node t.arg)) (turns i : ℕ) (front : Many t.redir) (ts : List model.Lexeme) → i < turns → d.redirs_from p (turns - i) front ts ≡ (if begins_redir ts then (d.redir_by p ts >>= λ r. d.redirs_from p (turns - (i + 1)) (snoc front r.0) r.1) else Ok (front, ts))
unfolding d.redirs_from
redirs_more p turns i front ts h = ap (λ k. d.redirs_from p k front ts) (one_less turns i h)

pub redirs_done : (p : Reader (Node t.arg)) (turns i : ℕ) (front : Many t.redir) (ts : List model.Lexeme) → turns ≤ i → d.redirs_from p (turns - i) front ts ≡ Ok (front, ts)
unfolding d.redirs_from
redirs_done p turns i front ts h = ap (λ k. d.redirs_from p k front ts) (none_left turns i h)

pub ruleset redirs = (redirs_start, redirs_more, redirs_done, nodes_push, common_steps)

pub simple_start : (p : Reader (Node t.arg)) (turns : ℕ) (front : Many t.arg) (ts : List model.Lexeme) → turns ≡ length ts → simple_after p front ts ≡ d.simple_from p (turns - 0) front none ts
simple_start p turns front ts h = ap (λ k. d.simple_from p k front none ts) (all_left turns ts h)

pub simple_more : (p : Reader (Node t.arg)) (turns i : ℕ) (as' : Many t.arg) (rs : Many t.redir) (ts : List model.Lexeme) → i < turns → d.simple_from p (turns - i) as' rs ts ≡ (if begins_arg ts then (d.arg_by p false ts >>= λ a. d.simple_from p (turns - (i + 1)) (snoc as' a.0) rs a.1) else if begins_redir ts then (d.redir_by p ts >>= λ r. d.simple_from p (turns - (i + 1)) as' (snoc rs r.0) r.1) else Ok ((as', rs), ts))
unfolding d.simple_from
simple_more p turns i as' rs ts h = ap (λ k. d.simple_from p k as' rs ts) (one_less turns i h)

pub simple_done : (p : Reader (Node t.arg)) (turns i : ℕ) (as' : Many t.arg) (rs : Many t.redir) (ts : List model.Lexeme) → turns ≤ i → d.simple_from p (turns - i) as' rs ts ≡ Ok ((as', rs), ts)
unfolding d.simple_from
simple_done p turns i as' rs ts h = ap (λ k. d.simple_from p k as' rs ts) (none_left turns i h)

pub ruleset simple = (simple_start, simple_more, simple_done, nodes_push, common_steps)

-- a word before the others
led : Node t.arg → Many t.arg × Many t.redir → Many t.arg × Many t.redir
led a x = (more a x.0, x.1)

-- in one turn a word stays before the others, if it does in those that are left
simple_turn :
    (p : Reader (Node t.arg)) (turns : ℕ) (a : Node t.arg) (as' : Many t.arg) (rs : Many t.redir) (ts : List model.Lexeme) →
    ((bs : Many t.arg) (ss : Many t.redir) (us : List model.Lexeme) → d.simple_from p turns (more a bs) ss us ≡ made (led a) (d.simple_from p turns bs ss us)) →
    d.simple_from p (suc turns) (more a as') rs ts ≡ made (led a) (d.simple_from p (suc turns) as' rs ts)
unfolding d.simple_from led
simple_turn p turns a as' rs ts kept = by (begins_arg ts) (begins_redir ts)
  where
    arg : (read : d.Read (Node t.arg)) → (read >>= λ x. d.simple_from p turns (snoc (more a as') x.0) rs x.1) ≡ made (led a) (read >>= λ x. d.simple_from p turns (snoc as' x.0) rs x.1)
    arg (Ok x) = kept (snoc as' x.0) rs x.1
    arg (Err e) = refl

    redir : (read : d.Read (Node t.redir)) → (read >>= λ x. d.simple_from p turns (more a as') (snoc rs x.0) x.1) ≡ made (led a) (read >>= λ x. d.simple_from p turns as' (snoc rs x.0) x.1)
    redir (Ok x) = kept as' (snoc rs x.0) x.1
    redir (Err e) = refl

    by : (b c : Bool) →
        (if b then (d.arg_by p false ts >>= λ x. d.simple_from p turns (snoc (more a as') x.0) rs x.1) else if c then (d.redir_by p ts >>= λ x. d.simple_from p turns (more a as') (snoc rs x.0) x.1) else Ok ((more a as', rs), ts))
        ≡ made (led a) (if b then (d.arg_by p false ts >>= λ x. d.simple_from p turns (snoc as' x.0) rs x.1) else if c then (d.redir_by p ts >>= λ x. d.simple_from p turns as' (snoc rs x.0) x.1) else Ok ((as', rs), ts))
    by true c = arg (d.arg_by p false ts)
    by false true = redir (d.redir_by p ts)
    by false false = refl

simple_kept :
    (p : Reader (Node t.arg)) (turns : ℕ) (a : Node t.arg) (as' : Many t.arg) (rs : Many t.redir) (ts : List model.Lexeme) →
    d.simple_from p turns (more a as') rs ts ≡ made (led a) (d.simple_from p turns as' rs ts)
unfolding d.simple_from led
simple_kept p zero a as' rs ts = refl
simple_kept p (suc turns) a as' rs ts = simple_turn p turns a as' rs ts (λ bs ss us. simple_kept p turns a bs ss us)

-- the command of a first word and of what was read after it
pub simple_whole :
    (p : Reader (Node t.arg)) (a : Node t.arg) (front : Many t.arg) (ts : List model.Lexeme) → front ≡ more a none →
    made (λ x. d.Staged (redirect x.1 (t.Simple (more a x.0)))) (d.simple_by p ts) ≡ made (λ x. d.Staged (redirect x.1 (t.Simple x.0))) (simple_after p front ts)
unfolding d.simple_by led
simple_whole p a front ts h =
    by (d.simple_from p (length ts) none none ts)
    ∙ ap (made (λ x. d.Staged (redirect x.1 (t.Simple x.0)))) (sym (ap (λ f. d.simple_from p (length ts) f none ts) h ∙ simple_kept p (length ts) a none none ts))
  where
    by : (read : d.Read (Many t.arg × Many t.redir)) → made (λ x. d.Staged (redirect x.1 (t.Simple (more a x.0)))) read ≡ made (λ x. d.Staged (redirect x.1 (t.Simple x.0))) (made (led a) read)
    by (Ok x) = refl
    by (Err e) = refl

-- its fault is that of what was to be read after it
pub simple_fails :
    (e : TokenError) (p : Reader (Node t.arg)) (a : Node t.arg) (front : Many t.arg) (ts : List model.Lexeme) → front ≡ more a none →
    Fails e (simple_after p front ts) → Fails e (made (λ x. d.Staged (redirect x.1 (t.Simple (more a x.0)))) (d.simple_by p ts))
simple_fails (error.Fault f) p a front ts h read = simple_whole p a front ts h ∙ ap (made (λ x. d.Staged (redirect x.1 (t.Simple x.0)))) read
simple_fails error.NoMemory p a front ts h read = tt

pub ruleset commands = (simple_whole, tree_Simple, common_steps)

pub members_start : (p : Reader (Node t.arg)) (turns : ℕ) (ts : List model.Lexeme) → turns ≡ length ts → d.members_by p ts ≡ d.members_from p (turns - 0) none ts
unfolding d.members_by
members_start p turns ts h = ap (λ k. d.members_from p k none ts) (all_left turns ts h)

pub members_more : (p : Reader (Node t.arg)) (turns i : ℕ) (front : Many t.arg) (ts : List model.Lexeme) → i < turns → d.members_from p (turns - i) front ts ≡ d.members_turn p (λ as' u. d.members_from p (turns - (i + 1)) as' u) front ts
unfolding d.members_from
members_more p turns i front ts h = ap (λ k. d.members_from p k front ts) (one_less turns i h)

pub members_done : (p : Reader (Node t.arg)) (turns i : ℕ) (front : Many t.arg) (ts : List model.Lexeme) → turns ≤ i → d.members_from p (turns - i) front ts ≡ Err (descent.Unexpected, length ts)
unfolding d.members_from
members_done p turns i front ts h = ap (λ k. d.members_from p k front ts) (none_left turns i h)

pub ruleset members = (members_start, members_more, members_done, nodes_push, common_steps)

pub links_start : (r : Readers) (turns : ℕ) (ts : List model.Lexeme) → turns ≡ length ts → d.links_by r ts ≡ d.links_from r (turns - 0) none ts
unfolding d.links_by
links_start r turns ts h = ap (λ k. d.links_from r k none ts) (all_left turns ts h)

pub links_more : (r : Readers) (turns i : ℕ) (front : Many t.link) (ts : List model.Lexeme) → i < turns → d.links_from r (turns - i) front ts ≡ d.links_turn r (λ ls u. d.links_from r (turns - (i + 1)) ls u) front ts
unfolding d.links_from
links_more r turns i front ts h = ap (λ k. d.links_from r k front ts) (one_less turns i h)

pub links_done : (r : Readers) (turns i : ℕ) (front : Many t.link) (ts : List model.Lexeme) → turns ≤ i → d.links_from r (turns - i) front ts ≡ Ok (front, ts)
unfolding d.links_from
links_done r turns i front ts h = ap (λ k. d.links_from r k front ts) (none_left turns i h)

-- no operand follows if no `&&` or `||` does
pub links_alone : (r : Readers) (ts : List model.Lexeme) → begins_link ts ≡ false → d.links_by r ts ≡ Ok (none, ts)
unfolding d.links_by d.links_from
links_alone r ts h = by (length ts)
  where
    by : (turns : ℕ) → d.links_from r turns none ts ≡ Ok (none, ts)
    by zero = refl
    by (suc turns) = links_stop r (λ ls u. d.links_from r turns ls u) none ts h

pub ruleset linked = (links_alone, levels)

pub ruleset links = (links_start, links_more, links_done, nodes_push, common_steps)

pub branches_start : (r : Readers) (turns : ℕ) (ts : List model.Lexeme) → turns ≡ length ts → d.branches_by r (model.LeftBrace ∷ ts) ≡ d.branches_from r (turns - 0) none ts
unfolding d.branches_by
branches_start r turns ts h = ap (λ k. d.branches_from r k none ts) (all_left turns ts h)

pub branches_more : (r : Readers) (turns i : ℕ) (front : Many t.branch) (ts : List model.Lexeme) → i < turns → d.branches_from r (turns - i) front ts ≡ d.branches_turn r (λ bs u. d.branches_from r (turns - (i + 1)) bs u) front ts
unfolding d.branches_from
branches_more r turns i front ts h = ap (λ k. d.branches_from r k front ts) (one_less turns i h)

pub branches_done : (r : Readers) (turns i : ℕ) (front : Many t.branch) (ts : List model.Lexeme) → turns ≤ i → d.branches_from r (turns - i) front ts ≡ Err (descent.Unexpected, length ts)
unfolding d.branches_from
branches_done r turns i front ts h = ap (λ k. d.branches_from r k front ts) (none_left turns i h)

-- the turn of a case line
pub branches_case :
    (r : Readers) (turns i : ℕ) (front front' : Many t.branch) (b : Node t.branch) (us ts cs vs : List model.Lexeme) (text : List ℕ) (whole : d.Read (Many t.branch)) →
    d.branches_from r (turns - i) front us ≡ whole → us ≡ model.Word text ∷ ts → is_case text ≡ true → cs ≡ past_caret ts → d.branch_by r cs ≡ Ok (b, vs) → i < turns →
    front' ≡ snoc front b → d.branches_from r (turns - (i + 1)) front' vs ≡ whole
branches_case r turns i front front' b us ts cs vs text whole so_far e named after read h pushed =
    let go : Many t.branch → Reader (Many t.branch) = λ bs u. d.branches_from r (turns - (i + 1)) bs u in
    let line : d.branches_turn r go front (model.Word text ∷ ts) ≡ (d.branch_by r (past_caret ts) >>= λ x. go (snoc front x.0) x.1) =
    ap (λ q. if q then (d.branch_by r (past_caret ts) >>= λ x. go (snoc front x.0) x.1) else Err (descent.Unexpected, length (model.Word text ∷ ts))) named in
    let taken : (d.branch_by r (past_caret ts) >>= λ x. go (snoc front x.0) x.1) ≡ go (snoc front b) vs =
    ap (λ q. q >>= λ x. go (snoc front x.0) x.1) (ap (λ q. d.branch_by r q) (sym after) ∙ read) in
    ap (λ f. go f vs) pushed ∙ sym (branches_more r turns i front us h ∙ ap (λ q. d.branches_turn r go front q) e ∙ line ∙ taken) ∙ so_far

pub ruleset branches = (branches_start, branches_more, branches_done, nodes_push, common_steps)

pub pipe_start : (r : Readers) (turns : ℕ) (first : Node t.cmd) (ts : List model.Lexeme) → turns ≡ length ts → d.pipe_by r first ts ≡ d.pipe_from r (turns - 0) none first ts
unfolding d.pipe_by
pipe_start r turns first ts h = ap (λ k. d.pipe_from r k none first ts) (all_left turns ts h)

pub pipe_more : (r : Readers) (turns i : ℕ) (stages : Many t.stage) (last : Node t.cmd) (ts : List model.Lexeme) → i < turns → d.pipe_from r (turns - i) stages last ts ≡
    d.pipe_turn r (λ ss c u. d.pipe_from r (turns - (i + 1)) ss c u) stages last ts
unfolding d.pipe_from
pipe_more r turns i stages last ts h = ap (λ k. d.pipe_from r k stages last ts) (one_less turns i h)

pub pipe_done : (r : Readers) (turns i : ℕ) (stages : Many t.stage) (last : Node t.cmd) (ts : List model.Lexeme) → turns ≤ i →
    d.pipe_from r (turns - i) stages last ts ≡ Ok (d.pipeline_of stages last, ts)
unfolding d.pipe_from
pipe_done r turns i stages last ts h = ap (λ k. d.pipe_from r k stages last ts) (none_left turns i h)

-- no stage follows if no bar does
pub pipe_alone : (r : Readers) (first : Node t.cmd) (ts : List model.Lexeme) → begins_bar ts ≡ false → d.pipe_by r first ts ≡ Ok (first, ts)
unfolding d.pipe_by d.pipe_from
pipe_alone r first ts h = by (length ts)
  where
    by : (turns : ℕ) → d.pipe_from r turns none first ts ≡ Ok (first, ts)
    by zero = refl
    by (suc turns) = pipe_stops r (λ ss c u. d.pipe_from r turns ss c u) none first ts h

pub ruleset unpiped = (pipe_alone, common_steps)

pub ruleset assigned_alone = (pipe_alone, assignments)

pub ruleset pipe = (pipe_start, pipe_more, pipe_done, nodes_push, common_steps)

pub values_start : (r : Readers) (turns : ℕ) (front : Many t.pair) (ts : List model.Lexeme) → turns ≡ length ts → d.values_by r front ts ≡ d.values_from r (turns - 0) front ts
unfolding d.values_by
values_start r turns front ts h = ap (λ k. d.values_from r k front ts) (all_left turns ts h)

pub values_more : (r : Readers) (turns i : ℕ) (front : Many t.pair) (ts : List model.Lexeme) → i < turns → d.values_from r (turns - i) front ts ≡ (if d.begins_leading ts then (d.leading_by r false ts >>= λ c. Ok (t.Assign front c.0, c.1)) else if begins_command ts then (d.opening_by r ts >>= λ o. d.value_turn r (λ ps u. d.values_from r (turns - (i + 1)) ps u) front o.0 o.1) else Ok (t.Assign front t.Empty, ts))
unfolding d.values_from
values_more r turns i front ts h = ap (λ k. d.values_from r k front ts) (one_less turns i h)

pub values_done : (r : Readers) (turns i : ℕ) (front : Many t.pair) (ts : List model.Lexeme) → turns ≤ i → d.values_from r (turns - i) front ts ≡ Ok (t.Assign front t.Empty, ts)
unfolding d.values_from
values_done r turns i front ts h = ap (λ k. d.values_from r k front ts) (none_left turns i h)

pub ruleset values = (values_start, values_more, values_done, nodes_push, common_steps)

pub items_start : (r : Readers) (in_switch : Bool) (turns : ℕ) (ts : List model.Lexeme) → turns ≡ length ts →
    d.items_by r in_switch ts ≡ d.items_from r in_switch (turns - 0) false none ts
unfolding d.items_by
items_start r in_switch turns ts h = ap (λ k. d.items_from r in_switch k false none ts) (all_left turns ts h)

pub items_more : (r : Readers) (in_switch : Bool) (turns i : ℕ) (after_if : Bool) (front : Many t.item) (ts : List model.Lexeme) → i < turns → d.items_from r in_switch (turns - i) after_if front ts ≡ (if ends in_switch ts then Ok (front, ts) else d.item_turn r (λ b is u. d.items_from r in_switch (turns - (i + 1)) b is u) after_if front ts)
unfolding d.items_from
items_more r in_switch turns i after_if front ts h = ap (λ k. d.items_from r in_switch k after_if front ts) (one_less turns i h)

pub items_done : (r : Readers) (in_switch : Bool) (turns i : ℕ) (after_if : Bool) (front : Many t.item) (ts : List model.Lexeme) → turns ≤ i → d.items_from r in_switch (turns - i) after_if front ts ≡ Ok (front, ts)
unfolding d.items_from
items_done r in_switch turns i after_if front ts h = ap (λ k. d.items_from r in_switch k after_if front ts) (none_left turns i h)

pub ruleset items = (items_start, items_more, items_done, nodes_push, common_steps)
