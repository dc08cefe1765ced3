-- Each phrase is read, unless its tree is too deep or a pipeline in it too long: names, arguments, redirections, the words of a simple command and lists in brackets.
use Rattle.std.proofs.Common.{◌≡◌, ℕ, zero, suc, ◌<◌, ◌≤◌, Bool, true, false, List, ◌∷◌, length, Ok, Err, refl, sym, ap, subst, arith}
use Rattle.rc_model.specs.Syntax.Tokens.{Lexeme, Newline, RightParen, RightBrace, Subscript}
use Rattle.rc_model.specs.Syntax.Tree.{Node, Many, none, more, snoc}
use Rattle.rc_model.specs.Syntax.Tree as t
use Rattle.rc_model.specs.Syntax.WellFormed.{depth, depths, most_stages, most_stages_in}
use Rattle.rc_model.specs.Syntax.Grammar.{Phrase, past_blanks, concat_of, begins_arg, begins_subscript}
use Rattle.rc_model.specs.Syntax.Grammar as g
use Rattle.rc_model.specs.Mirrors.Descent as d
use Rattle.rc_model.specs.Mirrors.Descent.{Read, Reader, Readers, ◌>>=◌}
use Rattle.law_syntax.proofs.Shorter.{Phrase-shorter, past_blanks-shorter, after_caret-shorter}
use Rattle.law_syntax.proofs.Lists.{append, append_snoc, append_none}
use Rattle.law_syntax.proofs.Beginnings.{arg_begins, redir_begins, redir_no_arg}
use Rattle.rc_model.specs.declared.fault.DescentFault.TheVariants as descent

-- what is read with `left` levels left, where the phrase has a tree of `tall` levels with at most `wide` stages in a pipeline
abbrev pub Met : {A : Type 0} → (left tall wide : ℕ) → Read A → (A × List Lexeme) → Type 0
Met left tall wide (Ok y) x = y ≡ x
Met left tall wide (Err (descent.Unexpected, place)) x = ⊥
Met left tall wide (Err (descent.IfNot, place)) x = ⊥
Met left tall wide (Err (descent.TooDeep, place)) x = left < tall
Met left tall wide (Err (descent.TooManyStages, place)) x = 64 < wide

pub record Meets {A : Type 0} (left tall wide : ℕ) (o : Read A) (x : A × List Lexeme) : Type 0 where
  pub met : Met left tall wide o x

-- a larger tree
grow : {A : Type 0} {a u w T W : ℕ} (o : Read A) (x : A × List Lexeme) → Meets a u w o x → u ≤ T → w ≤ W → Meets a T W o x
grow (Ok y) x m h k = record { met = m.met }
grow (Err (descent.Unexpected, left)) x m h k = absurd m.met
grow (Err (descent.IfNot, left)) x m h k = absurd m.met
grow (Err (descent.TooDeep, left)) x m h k = let e = m.met in record { met = omega arith }
grow (Err (descent.TooManyStages, left)) x m h k = let e = m.met in record { met = omega arith }

-- one level deeper
pub deepen : {A : Type 0} {a u w T W : ℕ} (o : Read A) (x : A × List Lexeme) → Meets a u w o x → suc u ≤ T → w ≤ W → Meets (suc a) T W o x
deepen (Ok y) x m h k = record { met = m.met }
deepen (Err (descent.Unexpected, left)) x m h k = absurd m.met
deepen (Err (descent.IfNot, left)) x m h k = absurd m.met
deepen (Err (descent.TooDeep, left)) x m h k = let e = m.met in record { met = omega arith }
deepen (Err (descent.TooManyStages, left)) x m h k = let e = m.met in record { met = omega arith }

-- one after the other
pub bind : {A B : Type 0} {a T W : ℕ} (o : Read A) (f : A × List Lexeme → Read B) (x : A × List Lexeme) (y : B × List Lexeme) → Meets a T W o x → Meets a T W (f x) y → Meets a T W (o >>= f) y
bind {a = a} {T = T} {W = W} (Ok z) f x y m n = subst (λ u. Meets a T W (f u) y) (sym m.met) n
bind (Err (descent.Unexpected, left)) f x y m n = absurd m.met
bind (Err (descent.IfNot, left)) f x y m n = absurd m.met
bind (Err (descent.TooDeep, left)) f x y m n = record { met = m.met }
bind (Err (descent.TooManyStages, left)) f x y m n = record { met = m.met }

-- what is read one level deeper
pub record Good (a : ℕ) (r : Readers) : Type 0 where
  pub name : {ts : List Lexeme} {n : Node t.arg} {rest : List Lexeme} → Phrase g.name ts n rest → Meets a (depth n) (most_stages n) (r d.a_name ts) (n, rest)
  pub part : {inside : Bool} {ts : List Lexeme} {n : Node t.arg} {rest : List Lexeme} → Phrase (g.part inside) ts n rest →
      Meets a (depth n) (most_stages n) (r (d.a_part inside) ts) (n, rest)
  pub operand : {ts : List Lexeme} {c : Node t.cmd} {rest : List Lexeme} → Phrase (g.operand false) ts c rest → Meets a (depth c) (most_stages c) (r d.an_operand ts) (c, rest)
  pub stage : {ts : List Lexeme} {c : Node t.cmd} {rest : List Lexeme} → Phrase g.stage ts c rest → Meets a (depth c) (most_stages c) (r d.a_piped ts) ((c, true), rest)
  pub leading : {ts : List Lexeme} {c : Node t.cmd} {rest : List Lexeme} → Phrase (g.leading false) ts c rest → Meets a (depth c) (most_stages c) (r d.a_piped ts) ((c, false), rest)
  pub assigned : {ts : List Lexeme} {c : Node t.cmd} {rest : List Lexeme} → Phrase g.assigned ts c rest → Meets a (depth c) (most_stages c) (r d.a_piped ts) ((c, false), rest)
  pub command : {f : Bool} {ts : List Lexeme} {c : Node t.cmd} {rest : List Lexeme} → Phrase (g.command f) ts c rest → Meets a (depth c) (most_stages c) (r (d.a_command f) ts) (c, rest)
  pub list : {s : Bool} {ts : List Lexeme} {is : Many t.item} {rest : List Lexeme} → Phrase (g.items s false) ts is rest →
      Meets a (suc (depths is)) (most_stages_in is) (r (d.a_list s) ts) (is, rest)

pub record GoodPart (a : ℕ) (inside : Bool) (p : Reader (Node t.arg)) : Type 0 where
  pub meets : {ts : List Lexeme} {n : Node t.arg} {rest : List Lexeme} → Phrase (g.part inside) ts n rest → Meets a (depth n) (most_stages n) (p ts) (n, rest)

pub good_part : (a : ℕ) (r : Readers) → Good a r → (inside : Bool) → GoodPart a inside (r (d.a_part inside))
good_part a r gr inside = record { meets = gr.part }

-- arguments
concat_tall : (x : Node t.arg) (xs : Many t.arg) → (depth x ≤ depth (concat_of x xs)) × (depths xs ≤ depth (concat_of x xs)) × (most_stages x ≤ most_stages (concat_of x xs)) ×
    (most_stages_in xs ≤ most_stages (concat_of x xs))
concat_tall x none = (omega arith, omega arith, omega arith, omega arith)
concat_tall x (more y ys) = (omega arith, omega arith, omega arith, omega arith)

parts_meets : (a T W : ℕ) (p : Reader (Node t.arg)) (inside : Bool) → GoodPart a inside p → (k : ℕ) (front : Many t.arg) {ts : List Lexeme} {as' : Many t.arg} {rest : List Lexeme} →
    Phrase (g.parts inside) ts as' rest → length ts ≤ k → depths as' ≤ T → most_stages_in as' ≤ W → Meets a T W (d.parts_from p inside k front ts) (append front as', rest)
unfolding d.parts_from
parts_meets a T W p inside gp zero front (g.no_caret {rest = rest} h) le dt dw = record { met = ap (λ z. (z, rest)) (sym (append_none front)) }
parts_meets a T W p inside gp (suc k) front (g.no_caret {rest = rest} h) le dt dw = rw h (record { met = ap (λ z. (z, rest)) (sym (append_none front)) })
parts_meets a T W p inside gp zero front (g.caret {ts = ts} {next = next} h q s) le dt dw =
    let one = after_caret-shorter (past_blanks inside ts) next h in let two = past_blanks-shorter inside ts in absurd (omega arith)
parts_meets a T W p inside gp (suc k) front (g.caret {ts = ts} {next = next} {mid = mid} {rest = rest} {a = x} {as' = xs} h q s) le dt dw =
    let one = after_caret-shorter (past_blanks inside ts) next h in
    let two = past_blanks-shorter inside ts in
    let three = past_blanks-shorter inside next in
    let four = Phrase-shorter q in
    rw h (bind (p (past_blanks inside next)) _ (x, mid) (append front (more x xs), rest) (grow (p (past_blanks inside next)) (x, mid) (gp.meets q) (omega arith) (omega arith))
    (subst (λ z. Meets a T W (d.parts_from p inside k (snoc front x) mid) (z, rest)) (append_snoc front x xs)
    (parts_meets a T W p inside gp k (snoc front x) s (omega arith) (omega arith) (omega arith))))

pub arg_meets : (a T W : ℕ) (p : Reader (Node t.arg)) (inside : Bool) → GoodPart a inside p → {ts : List Lexeme} {n : Node t.arg} {rest : List Lexeme} → Phrase (g.arg inside) ts n rest →
    depth n ≤ T → most_stages n ≤ W → Meets a T W (d.arg_by p inside ts) (n, rest)
unfolding d.arg_by d.parts_by
arg_meets a T W p inside gp (g.joined {ts = ts} {mid = mid} {rest = rest} {a = x} {as' = xs} q s) dt dw =
    let c = concat_tall x xs in
    bind (p ts) _ (x, mid) (concat_of x xs, rest) (grow (p ts) (x, mid) (gp.meets q) (omega arith) (omega arith))
    (bind (d.parts_from p inside (length mid) none mid) _ (xs, rest) (concat_of x xs, rest) (parts_meets a T W p inside gp (length mid) none s (omega arith) (omega arith) (omega arith))
    (record { met = refl }))

members_turn_arg : (p : Reader (Node t.arg)) (go_on : Many t.arg → Reader (Many t.arg)) (front : Many t.arg) (ts : List Lexeme) → begins_arg ts ≡ true →
    d.members_turn p go_on front ts ≡ (d.arg_by p true ts >>= λ a. go_on (snoc front a.0) a.1)
members_turn_arg p go_on front (RightParen ∷ ts) h = absurd cc
members_turn_arg p go_on front (Newline ∷ ts) h = absurd cc
members_turn_arg p go_on front ts h = refl

members_from_meets : (a T W : ℕ) (p : Reader (Node t.arg)) → GoodPart a true p → (k : ℕ) (front : Many t.arg) {ts : List Lexeme} {as' : Many t.arg} {rest : List Lexeme} →
    Phrase g.members ts as' rest → length ts ≤ k → depths as' ≤ T → most_stages_in as' ≤ W → Meets a T W (d.members_from p k front ts) (append front as', rest)
unfolding d.members_from
members_from_meets a T W p gp zero front (g.no_member) le dt dw = absurd (omega arith)
members_from_meets a T W p gp (suc k) front (g.no_member {rest = rest}) le dt dw = record { met = ap (λ z. (z, rest)) (sym (append_none front)) }
members_from_meets a T W p gp zero front (g.blank_member q) le dt dw = absurd (omega arith)
members_from_meets a T W p gp (suc k) front (g.blank_member q) le dt dw = members_from_meets a T W p gp k front q (omega arith) dt dw
members_from_meets a T W p gp zero front (g.member q s) le dt dw = let one = Phrase-shorter q in absurd (omega arith)
members_from_meets a T W p gp (suc k) front (g.member {ts = ts} {mid = mid} {rest = rest} {a = x} {as' = xs} q s) le dt dw =
    let one = Phrase-shorter q in
    rw (members_turn_arg p (λ bs u. d.members_from p k bs u) front ts (arg_begins q))
    (bind (d.arg_by p true ts) _ (x, mid) (append front (more x xs), rest) (arg_meets a T W p true gp q (omega arith) (omega arith))
    (subst (λ z. Meets a T W (d.members_from p k (snoc front x) mid) (z, rest)) (append_snoc front x xs)
    (members_from_meets a T W p gp k (snoc front x) s (omega arith) (omega arith) (omega arith))))

pub members_meets : (a T W : ℕ) (p : Reader (Node t.arg)) → GoodPart a true p → {ts : List Lexeme} {as' : Many t.arg} {rest : List Lexeme} → Phrase g.members ts as' rest → depths as' ≤ T →
    most_stages_in as' ≤ W → Meets a T W (d.members_by p ts) (as', rest)
unfolding d.members_by
members_meets a T W p gp {ts = ts} q dt dw = members_from_meets a T W p gp (length ts) none q (omega arith) dt dw

words_from_meets : (a T W : ℕ) (p : Reader (Node t.arg)) → GoodPart a false p → (k : ℕ) (front : Many t.arg) {ts : List Lexeme} {as' : Many t.arg} {rest : List Lexeme} →
    Phrase g.words ts as' rest → length ts ≤ k → depths as' ≤ T → most_stages_in as' ≤ W → Meets a T W (d.words_from p k front ts) (append front as', rest)
unfolding d.words_from
words_from_meets a T W p gp zero front (g.no_word {rest = rest} h) le dt dw = record { met = ap (λ z. (z, rest)) (sym (append_none front)) }
words_from_meets a T W p gp (suc k) front (g.no_word {rest = rest} h) le dt dw = rw h (record { met = ap (λ z. (z, rest)) (sym (append_none front)) })
words_from_meets a T W p gp zero front (g.word q s) le dt dw = let one = Phrase-shorter q in absurd (omega arith)
words_from_meets a T W p gp (suc k) front (g.word {ts = ts} {mid = mid} {rest = rest} {a = x} {as' = xs} q s) le dt dw =
    let one = Phrase-shorter q in
    rw (arg_begins q) (bind (d.arg_by p false ts) _ (x, mid) (append front (more x xs), rest) (arg_meets a T W p false gp q (omega arith) (omega arith))
    (subst (λ z. Meets a T W (d.words_from p k (snoc front x) mid) (z, rest)) (append_snoc front x xs)
    (words_from_meets a T W p gp k (snoc front x) s (omega arith) (omega arith) (omega arith))))

pub words_meets : (a T W : ℕ) (p : Reader (Node t.arg)) → GoodPart a false p → {ts : List Lexeme} {as' : Many t.arg} {rest : List Lexeme} → Phrase g.words ts as' rest → depths as' ≤ T →
    most_stages_in as' ≤ W → Meets a T W (d.words_by p ts) (as', rest)
unfolding d.words_by
words_meets a T W p gp {ts = ts} q dt dw = words_from_meets a T W p gp (length ts) none q (omega arith) dt dw

pub redir_meets : (a T W : ℕ) (p : Reader (Node t.arg)) → GoodPart a false p → {ts : List Lexeme} {n : Node t.redir} {rest : List Lexeme} → Phrase g.redir ts n rest → depth n ≤ T → most_stages n ≤ W →
    Meets a T W (d.redir_by p ts) (n, rest)
unfolding d.redir_by
redir_meets a T W p gp (g.open_redir {mode = mode} {slot = slot} {ts = ts} {rest = rest} {a = x} q) dt dw =
    bind (d.arg_by p false ts) _ (x, rest) (t.Open mode slot x, rest) (arg_meets a T W p false gp q dt dw) (record { met = refl })
redir_meets a T W p gp (g.copy_redir) dt dw = record { met = refl }
redir_meets a T W p gp (g.here_redir) dt dw = record { met = refl }

redirs_from_meets : (a T W : ℕ) (p : Reader (Node t.arg)) → GoodPart a false p → (k : ℕ) (front : Many t.redir) {ts : List Lexeme} {rs : Many t.redir} {rest : List Lexeme} →
    Phrase g.redirs ts rs rest → length ts ≤ k → depths rs ≤ T → most_stages_in rs ≤ W → Meets a T W (d.redirs_from p k front ts) (append front rs, rest)
unfolding d.redirs_from
redirs_from_meets a T W p gp zero front (g.no_redir {rest = rest} h) le dt dw = record { met = ap (λ z. (z, rest)) (sym (append_none front)) }
redirs_from_meets a T W p gp (suc k) front (g.no_redir {rest = rest} h) le dt dw = rw h (record { met = ap (λ z. (z, rest)) (sym (append_none front)) })
redirs_from_meets a T W p gp zero front (g.redir_more q s) le dt dw = let one = Phrase-shorter q in absurd (omega arith)
redirs_from_meets a T W p gp (suc k) front (g.redir_more {ts = ts} {mid = mid} {rest = rest} {r = x} {rs = xs} q s) le dt dw =
    let one = Phrase-shorter q in
    rw (redir_begins q) (bind (d.redir_by p ts) _ (x, mid) (append front (more x xs), rest) (redir_meets a T W p gp q (omega arith) (omega arith))
    (subst (λ z. Meets a T W (d.redirs_from p k (snoc front x) mid) (z, rest)) (append_snoc front x xs)
    (redirs_from_meets a T W p gp k (snoc front x) s (omega arith) (omega arith) (omega arith))))

pub redirs_meets : (a T W : ℕ) (p : Reader (Node t.arg)) → GoodPart a false p → {ts : List Lexeme} {rs : Many t.redir} {rest : List Lexeme} → Phrase g.redirs ts rs rest → depths rs ≤ T →
    most_stages_in rs ≤ W → Meets a T W (d.redirs_by p ts) (rs, rest)
unfolding d.redirs_by
redirs_meets a T W p gp {ts = ts} q dt dw = redirs_from_meets a T W p gp (length ts) none q (omega arith) dt dw

both : (as' bs : Many t.arg) (rs ss : Many t.redir) (rest : List Lexeme) (e : as' ≡ bs) (f : rs ≡ ss) → ◌≡◌ {A = (Many t.arg × Many t.redir) × List Lexeme} ((as', rs), rest) ((bs, ss), rest)
both as' bs rs ss rest e f = λ i. ((e i, f i), rest)

simple_from_meets : (a T W : ℕ) (p : Reader (Node t.arg)) → GoodPart a false p → (k : ℕ) (as' : Many t.arg) (rs : Many t.redir) {ts : List Lexeme} {x : Many t.arg × Many t.redir}
    {rest : List Lexeme} → Phrase g.simple ts x rest → length ts ≤ k → depths x.0 ≤ T → depths x.1 ≤ T → most_stages_in x.0 ≤ W → most_stages_in x.1 ≤ W →
    Meets a T W (d.simple_from p k as' rs ts) ((append as' x.0, append rs x.1), rest)
unfolding d.simple_from
simple_from_meets a T W p gp zero as' rs (g.simple_end {rest = rest} h j) le d1 d2 w1 w2 = record {
  met = both as' (append as' none) rs
      (append rs none) rest (sym (append_none as')) (sym (append_none rs));
}
simple_from_meets a T W p gp (suc k) as' rs (g.simple_end {rest = rest} h j) le d1 d2 w1 w2 =
    rw (h, j) (record { met = both as' (append as' none) rs (append rs none) rest (sym (append_none as')) (sym (append_none rs)) })
simple_from_meets a T W p gp zero as' rs (g.simple_word q s) le d1 d2 w1 w2 = let one = Phrase-shorter q in absurd (omega arith)
simple_from_meets a T W p gp (suc k) as' rs (g.simple_word {ts = ts} {mid = mid} {rest = rest} {a = y} {x = x} q s) le d1 d2 w1 w2 =
    let one = Phrase-shorter q in
    rw (arg_begins q) (bind (d.arg_by p false ts) _ (y, mid) ((append as' (more y x.0), append rs x.1), rest) (arg_meets a T W p false gp q (omega arith) (omega arith))
    (subst (λ z. Meets a T W (d.simple_from p k (snoc as' y) rs mid) ((z, append rs x.1), rest)) (append_snoc as' y x.0)
    (simple_from_meets a T W p gp k (snoc as' y) rs s (omega arith) (omega arith) (omega arith) (omega arith) (omega arith))))
simple_from_meets a T W p gp zero as' rs (g.simple_redir q s) le d1 d2 w1 w2 = let one = Phrase-shorter q in absurd (omega arith)
simple_from_meets a T W p gp (suc k) as' rs (g.simple_redir {ts = ts} {mid = mid} {rest = rest} {r = y} {x = x} q s) le d1 d2 w1 w2 =
    let one = Phrase-shorter q in
    rw (redir_no_arg ts (redir_begins q), redir_begins q)
    (bind (d.redir_by p ts) _ (y, mid) ((append as' x.0, append rs (more y x.1)), rest) (redir_meets a T W p gp q (omega arith) (omega arith))
    (subst (λ z. Meets a T W (d.simple_from p k as' (snoc rs y) mid) ((append as' x.0, z), rest)) (append_snoc rs y x.1)
    (simple_from_meets a T W p gp k as' (snoc rs y) s (omega arith) (omega arith) (omega arith) (omega arith) (omega arith))))

pub simple_meets : (a T W : ℕ) (p : Reader (Node t.arg)) → GoodPart a false p → {ts : List Lexeme} {x : Many t.arg × Many t.redir} {rest : List Lexeme} → Phrase g.simple ts x rest → depths x.0 ≤ T →
    depths x.1 ≤ T → most_stages_in x.0 ≤ W → most_stages_in x.1 ≤ W → Meets a T W (d.simple_by p ts) (x, rest)
unfolding d.simple_by
simple_meets a T W p gp {ts = ts} q d1 d2 w1 w2 = simple_from_meets a T W p gp (length ts) none none q (omega arith) d1 d2 w1 w2

-- names, lists in braces and in parentheses, parts
pub name_meets : (a T W : ℕ) (r : Readers) → Good a r → {ts : List Lexeme} {n : Node t.arg} {rest : List Lexeme} → Phrase g.name ts n rest → depth n ≤ T → most_stages n ≤ W →
    Meets (suc a) T W (d.name_by r ts) (n, rest)
unfolding d.name_by
name_meets a T W r gr (g.bare_name) dt dw = record { met = refl }
name_meets a T W r gr (g.quoted_name) dt dw = record { met = refl }
name_meets a T W r gr (g.named_name {ts = ts} {rest = rest} {n = n} q) dt dw =
    bind (r d.a_name ts) _ (n, rest) (t.Var n, rest) (deepen (r d.a_name ts) (n, rest) (gr.name q) (omega arith) (omega arith)) (record { met = refl })

closed_by_brace_meets : (a T W : ℕ) (o : Read (Many t.item)) (is : Many t.item) (rest : List Lexeme) → Meets a T W o (is, RightBrace ∷ rest) → Meets a T W (d.closed_by_brace o) (t.Seq is, rest)
closed_by_brace_meets a T W (Ok y) is rest m = subst (λ z. Meets a T W (d.closed_by_brace (Ok z)) (t.Seq is, rest)) (sym m.met) (record { met = refl })
closed_by_brace_meets a T W (Err (descent.Unexpected, left)) is rest m = absurd m.met
closed_by_brace_meets a T W (Err (descent.IfNot, left)) is rest m = absurd m.met
closed_by_brace_meets a T W (Err (descent.TooDeep, left)) is rest m = record { met = m.met }
closed_by_brace_meets a T W (Err (descent.TooManyStages, left)) is rest m = record { met = m.met }

closed_by_paren_meets : (a T W : ℕ) (o : Read (Many t.item)) (is : Many t.item) (rest : List Lexeme) → Meets a T W o (is, RightParen ∷ rest) → Meets a T W (d.closed_by_paren o) (t.Seq is, rest)
closed_by_paren_meets a T W (Ok y) is rest m = subst (λ z. Meets a T W (d.closed_by_paren (Ok z)) (t.Seq is, rest)) (sym m.met) (record { met = refl })
closed_by_paren_meets a T W (Err (descent.Unexpected, left)) is rest m = absurd m.met
closed_by_paren_meets a T W (Err (descent.IfNot, left)) is rest m = absurd m.met
closed_by_paren_meets a T W (Err (descent.TooDeep, left)) is rest m = record { met = m.met }
closed_by_paren_meets a T W (Err (descent.TooManyStages, left)) is rest m = record { met = m.met }

pub brace_meets : (a T W : ℕ) (r : Readers) → Good a r → {ts : List Lexeme} {c : Node t.cmd} {rest : List Lexeme} → Phrase g.brace ts c rest → suc (depth c) ≤ T → most_stages c ≤ W →
    Meets (suc a) T W (d.brace_by r ts) (c, rest)
unfolding d.brace_by
brace_meets a T W r gr (g.braced {ts = ts} {rest = rest} {is = is} q) dt dw =
    closed_by_brace_meets (suc a) T W (r (d.a_list false) ts) is rest (deepen (r (d.a_list false) ts) (is, RightBrace ∷ rest) (gr.list q) (omega arith) (omega arith))

pub paren_meets : (a T W : ℕ) (r : Readers) → Good a r → {ts : List Lexeme} {c : Node t.cmd} {rest : List Lexeme} → Phrase g.paren ts c rest → suc (depth c) ≤ T → most_stages c ≤ W →
    Meets (suc a) T W (d.paren_by r ts) (c, rest)
unfolding d.paren_by
paren_meets a T W r gr (g.parenthesised {ts = ts} {rest = rest} {is = is} q) dt dw =
    closed_by_paren_meets (suc a) T W (r (d.a_list false) ts) is rest (deepen (r (d.a_list false) ts) (is, RightParen ∷ rest) (gr.list q) (omega arith) (omega arith))

value_alone : (r : Readers) (n : Node t.arg) (ts : List Lexeme) → begins_subscript ts ≡ false → d.value_by r n ts ≡ Ok (t.Var n, ts)
value_alone r n (Subscript ∷ ts) h = absurd cc
value_alone r n ts h = refl

pub part_meets : (a T W : ℕ) (r : Readers) → Good a r → {inside : Bool} {ts : List Lexeme} {n : Node t.arg} {rest : List Lexeme} → Phrase (g.part inside) ts n rest → depth n ≤ T →
    most_stages n ≤ W → Meets (suc a) T W (d.part_by r inside ts) (n, rest)
unfolding d.part_by d.dollar_by
part_meets a T W r gr (g.word_part) dt dw = record { met = refl }
part_meets a T W r gr (g.quoted_part) dt dw = record { met = refl }
part_meets a T W r gr (g.paren_part {ts = ts} {rest = rest} {as' = xs} q) dt dw =
    bind (d.members_by (r (d.a_part true)) ts) _ (xs, rest) (t.Paren xs, rest)
    (deepen (d.members_by (r (d.a_part true)) ts) (xs, rest)
    (members_meets a (depths xs) (most_stages_in xs) (r (d.a_part true)) (good_part a r gr true) q (omega arith) (omega arith)) (omega arith)
    (omega arith))
    (record { met = refl })
part_meets a T W r gr (g.back_part {inside = inside} {ts = ts} {rest = rest} {c = c} q) dt dw =
    bind (d.brace_by r (past_blanks inside ts)) _ (c, rest) (t.Back c, rest) (brace_meets a T W r gr q (omega arith) (omega arith)) (record { met = refl })
part_meets a T W r gr (g.var_part {ts = ts} {rest = rest} {n = n} q h) dt dw =
    bind (r d.a_name ts) _ (n, rest) (t.Var n, rest) (deepen (r d.a_name ts) (n, rest) (gr.name q) (omega arith) (omega arith)) (rw (value_alone r n rest h) (record { met = refl }))
part_meets a T W r gr (g.sub_part {ts = ts} {more' = next} {rest = rest} {n = n} {as' = xs} q s) dt dw =
    bind (r d.a_name ts) _ (n, Subscript ∷ next) (t.Sub n xs, rest) (deepen (r d.a_name ts) (n, Subscript ∷ next) (gr.name q) (omega arith) (omega arith))
    (bind (d.members_by (r (d.a_part true)) next) _ (xs, rest) (t.Sub n xs, rest)
    (deepen (d.members_by (r (d.a_part true)) next) (xs, rest)
    (members_meets a (depths xs) (most_stages_in xs) (r (d.a_part true)) (good_part a r gr true) s (omega arith) (omega arith)) (omega arith)
    (omega arith))
    (record { met = refl }))
part_meets a T W r gr (g.count_part {ts = ts} {rest = rest} {n = n} q) dt dw =
    bind (r d.a_name ts) _ (n, rest) (t.Count n, rest) (deepen (r d.a_name ts) (n, rest) (gr.name q) (omega arith) (omega arith)) (record { met = refl })
part_meets a T W r gr (g.flat_part {ts = ts} {rest = rest} {n = n} q) dt dw =
    bind (r d.a_name ts) _ (n, rest) (t.Flat n, rest) (deepen (r d.a_name ts) (n, rest) (gr.name q) (omega arith) (omega arith)) (record { met = refl })
