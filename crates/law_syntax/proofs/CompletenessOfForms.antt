-- Each phrase is read, unless its tree is too deep or a pipeline in it too long: the stages of a pipeline and control forms.
use Rattle.std.proofs.Common.{◌≡◌, ℕ, zero, suc, ◌<◌, ◌≤◌, max, Bool, true, false, List, ◌∷◌, length, Ok, refl, sym, ap, subst, ◌∙◌, arith}
use Rattle.rc_model.specs.Syntax.Tokens.{Lexeme, Word, Equals, LeftBrace, RightBrace, Redirection, CopyTo, HereDoc}
use Rattle.rc_model.specs.Syntax.Tree.{Node, Many, none, more, snoc}
use Rattle.rc_model.specs.Syntax.Tree as t
use Rattle.rc_model.specs.Syntax.WellFormed.{depth, depths, most_stages, most_stages_in}
use Rattle.rc_model.specs.Syntax.Grammar.{Phrase, keyword, past_newlines, past_caret, redirect, begins_arg, begins_first, begins_redir, begins_value, ends_case}
use Rattle.rc_model.specs.Syntax.Grammar as g
use Rattle.rc_model.specs.Mirrors.Descent as d
use Rattle.rc_model.specs.Mirrors.Descent.{Read, Readers, ◌>>=◌, Staged, Named}
use Rattle.law_syntax.proofs.Shorter.{Phrase-shorter, past_caret-shorter}
use Rattle.law_syntax.proofs.Lists.{append, append_snoc, append_none}
use Rattle.law_syntax.proofs.Beginnings.{arg_begins, redir_begins, plain_is, brace_begins, operand_commands, command_commands}
use Rattle.law_syntax.proofs.CompletenessOfArguments.{Meets, deepen, bind, Good, good_part, arg_meets, members_meets, words_meets, redir_meets, redirs_meets, simple_meets, brace_meets, paren_meets}

-- the case lines of a switch
branch_meets : (a T W : ℕ) (r : Readers) → Good a r → {ts mid next : List Lexeme} {as' : Many t.arg} {is : Many t.item} → Phrase g.words ts as' mid → ends_case mid ≡ true →
    Phrase (g.items true false) mid is next → suc (depths as') ≤ T → suc (suc (depths is)) ≤ T → most_stages_in as' ≤ W → most_stages_in is ≤ W →
    Meets (suc a) T W (d.branch_by r ts) (t.Branch as' (t.Seq is), next)
unfolding d.branch_by
branch_meets a T W r gr {ts = ts} {mid = mid} {next = next} {as' = xs} {is = is} q h s d1 d2 w1 w2 =
    bind (d.words_by (r (d.a_part false)) ts) _ (xs, mid) (t.Branch xs (t.Seq is), next)
    (deepen (d.words_by (r (d.a_part false)) ts) (xs, mid)
    (words_meets a (depths xs) (most_stages_in xs) (r (d.a_part false)) (good_part a r gr false) q (omega arith) (omega arith)) (omega arith)
    (omega arith))
    (rw h (bind (r (d.a_list true) mid) _ (is, next) (t.Branch xs (t.Seq is), next) (deepen (r (d.a_list true) mid) (is, next) (gr.list s) (omega arith) (omega arith)) (record { met = refl })))

same_tail : (x y : Lexeme) (ts us : List Lexeme) → x ∷ ts ≡ y ∷ us → ts ≡ us
same_tail x y ts us h = cc

-- the rest after the brace is a variable of its own, so that the phrase can be taken apart
branches_from_meets : (a T W : ℕ) (r : Readers) → Good a r → (k : ℕ) (front : Many t.branch) (rest : List Lexeme) {ts : List Lexeme} {bs : Many t.branch} {all : List Lexeme} →
    Phrase g.branches ts bs all → all ≡ RightBrace ∷ rest → length ts ≤ k → suc (depths bs) ≤ T → most_stages_in bs ≤ W → Meets (suc a) T W (d.branches_from r k front ts) (append front bs, rest)
unfolding d.branches_from
branches_from_meets a T W r gr zero front rest (g.no_branch) e le dt dw = absurd (omega arith)
branches_from_meets a T W r gr (suc k) front rest (g.no_branch {rest = tail}) e le dt dw =
    record { met = ap (λ z. (front, z)) (same_tail RightBrace RightBrace tail rest e) ∙ ap (λ z. (z, rest)) (sym (append_none front)) }
branches_from_meets a T W r gr zero front rest (g.semicolon_branch q) e le dt dw = absurd (omega arith)
branches_from_meets a T W r gr (suc k) front rest (g.semicolon_branch q) e le dt dw = branches_from_meets a T W r gr k front rest q e (omega arith) dt dw
branches_from_meets a T W r gr zero front rest (g.newline_branch q) e le dt dw = absurd (omega arith)
branches_from_meets a T W r gr (suc k) front rest (g.newline_branch q) e le dt dw = branches_from_meets a T W r gr k front rest q e (omega arith) dt dw
branches_from_meets a T W r gr zero front rest (g.one_branch h q j s v) e le dt dw = absurd (omega arith)
branches_from_meets a T W r gr (suc k) front rest (g.one_branch {text = text} {ts = ts} {mid = mid} {next = next} {as' = xs} {is = is} {bs = bs} h q j s v) e le dt dw =
    let zero' = past_caret-shorter ts in
    let one = Phrase-shorter q in
    let two = Phrase-shorter s in
    let b : Node t.branch = t.Branch xs (t.Seq is) in
    rw h (bind (d.branch_by r (past_caret ts)) _ (b, next) (append front (more b bs), rest) (branch_meets a T W r gr q j s (omega arith) (omega arith) (omega arith) (omega arith))
    (subst (λ z. Meets (suc a) T W (d.branches_from r k (snoc front b) next) (z, rest)) (append_snoc front b bs)
    (branches_from_meets a T W r gr k (snoc front b) rest v e (omega arith) (omega arith) (omega arith))))

-- the stages of a pipeline
redirect_tall : (rs : Many t.redir) (c : Node t.cmd) → 0 < depth c → (suc (depths rs) ≤ depth (redirect rs c)) × (depth c ≤ depth (redirect rs c)) ×
    (most_stages_in rs ≤ most_stages (redirect rs c)) × (most_stages c ≤ most_stages (redirect rs c))
redirect_tall none c h = (omega arith, omega arith, omega arith, omega arith)
redirect_tall (more r rs) c h = (omega arith, omega arith, omega arith, omega arith)

opening_first : (r : Readers) (ts : List Lexeme) → begins_first ts ≡ true → begins_arg ts ≡ true → d.opening_by r ts ≡ d.first_by r ts
unfolding d.opening_by d.worded_by
opening_first r (Word text ∷ ts) h b = ap (λ k. d.worded_by r k (Word text) ts) (plain_is (keyword text) h)
opening_first r (LeftBrace ∷ ts) h b = absurd cc
opening_first r ts h b = refl

first_simple : (r : Readers) (a : Node t.arg) (ts : List Lexeme) → begins_value ts ≡ false →
    d.after_first r a ts ≡ (d.simple_by (r (d.a_part false)) ts >>= λ x. Ok (Staged (redirect x.0.1 (t.Simple (more a x.0.0))), x.1))
first_simple r a (Equals ∷ ts) h = absurd cc
first_simple r a ts h = refl

brace_opens : (r : Readers) {ts : List Lexeme} {c : Node t.cmd} {rest : List Lexeme} → Phrase g.brace ts c rest → d.opening_by r ts ≡ d.staged (d.block_by r ts)
unfolding d.opening_by
brace_opens r (g.braced q) = refl

staged_meets : (a T W : ℕ) (o : Read (Node t.cmd)) (c : Node t.cmd) (rest : List Lexeme) → Meets a T W o (c, rest) → Meets a T W (d.staged o) (Staged c, rest)
staged_meets a T W o c rest m = bind o _ (c, rest) (Staged c, rest) m (record { met = refl })

switch_meets : (a T W : ℕ) (r : Readers) → Good a r → {ts mid inner next rest : List Lexeme} {n : Node t.arg} {bs : Many t.branch} {rs : Many t.redir} → Phrase (g.arg false) ts n mid →
    past_newlines mid ≡ LeftBrace ∷ inner → Phrase g.branches inner bs (RightBrace ∷ next) → Phrase g.redirs next rs rest → depth (redirect rs (t.Switch n bs)) ≤ T →
    most_stages (redirect rs (t.Switch n bs)) ≤ W → Meets (suc a) T W (d.switch_by r ts) (redirect rs (t.Switch n bs), rest)
unfolding d.switch_by d.branches_by
switch_meets a T W r gr {ts = ts} {mid = mid} {inner = inner} {next = next} {rest = rest} {n = n} {bs = bs} {rs = rs} q e s v dt dw =
    let z = redirect_tall rs (t.Switch n bs) (omega arith) in
    bind (d.arg_by (r (d.a_part false)) false ts) _ (n, mid) (redirect rs (t.Switch n bs), rest)
    (deepen (d.arg_by (r (d.a_part false)) false ts) (n, mid)
    (arg_meets a (depth n) (most_stages n) (r (d.a_part false)) false (good_part a r gr false) q (omega arith) (omega arith)) (omega arith)
    (omega arith))
    (rw e (bind (d.branches_from r (length inner) none inner) _ (bs, next) (redirect rs (t.Switch n bs), rest)
    (branches_from_meets a T W r gr (length inner) none next s refl (omega arith) (omega arith) (omega arith))
    (bind (d.redirs_by (r (d.a_part false)) next) _ (rs, rest) (redirect rs (t.Switch n bs), rest)
    (deepen (d.redirs_by (r (d.a_part false)) next) (rs, rest)
    (redirs_meets a (depths rs) (most_stages_in rs) (r (d.a_part false)) (good_part a r gr false) v (omega arith) (omega arith)) (omega arith)
    (omega arith))
    (record { met = refl }))))

match_meets : (a T W : ℕ) (r : Readers) → Good a r → {ts mid rest : List Lexeme} {n : Node t.arg} {as' : Many t.arg} → Phrase (g.arg false) ts n mid → Phrase g.words mid as' rest →
    depth (t.Match n as') ≤ T → most_stages (t.Match n as') ≤ W → Meets (suc a) T W (d.match_by r ts) (t.Match n as', rest)
unfolding d.match_by
match_meets a T W r gr {ts = ts} {mid = mid} {rest = rest} {n = n} {as' = xs} q s dt dw =
    bind (d.arg_by (r (d.a_part false)) false ts) _ (n, mid) (t.Match n xs, rest)
    (deepen (d.arg_by (r (d.a_part false)) false ts) (n, mid)
    (arg_meets a (depth n) (most_stages n) (r (d.a_part false)) false (good_part a r gr false) q (omega arith) (omega arith)) (omega arith)
    (omega arith))
    (bind (d.words_by (r (d.a_part false)) mid) _ (xs, rest) (t.Match n xs, rest)
    (deepen (d.words_by (r (d.a_part false)) mid) (xs, rest)
    (words_meets a (depths xs) (most_stages_in xs) (r (d.a_part false)) (good_part a r gr false) s (omega arith) (omega arith)) (omega arith)
    (omega arith))
    (record { met = refl }))

define_meets : (a T W : ℕ) (r : Readers) → Good a r → {ts mid next rest : List Lexeme} {n : Node t.arg} {as' : Many t.arg} (c : Node t.cmd) → Phrase (g.arg false) ts n mid →
    Phrase g.words mid as' next → suc (depths (more n as')) ≤ T → most_stages_in (more n as') ≤ W → Meets (suc a) T W (d.defined_by r (more n as') next) (c, rest) →
    Meets (suc a) T W (d.define_by r ts) (c, rest)
unfolding d.define_by
define_meets a T W r gr {ts = ts} {mid = mid} {next = next} {rest = rest} {n = n} {as' = xs} c q s dt dw m =
    bind (d.arg_by (r (d.a_part false)) false ts) _ (n, mid) (c, rest)
    (deepen (d.arg_by (r (d.a_part false)) false ts) (n, mid)
    (arg_meets a (depth n) (most_stages n) (r (d.a_part false)) false (good_part a r gr false) q (omega arith) (omega arith)) (omega arith)
    (omega arith))
    (bind (d.words_by (r (d.a_part false)) mid) _ (xs, next) (c, rest)
    (deepen (d.words_by (r (d.a_part false)) mid) (xs, next)
    (words_meets a (depths xs) (most_stages_in xs) (r (d.a_part false)) (good_part a r gr false) s (omega arith) (omega arith)) (omega arith)
    (omega arith)) m)

pub stage_meets : (a T W : ℕ) (r : Readers) → Good a r → {ts : List Lexeme} {c : Node t.cmd} {rest : List Lexeme} → Phrase g.stage ts c rest → depth c ≤ T → most_stages c ≤ W →
    Meets (suc a) T W (d.opening_by r ts) (Staged c, rest)
unfolding d.opening_by d.worded_by d.first_by d.block_by
stage_meets a T W r gr (g.simple_stage {ts = ts} {mid = mid} {rest = rest} {a = n} {x = x} h q j s) dt dw =
    let z = redirect_tall x.1 (t.Simple (more n x.0)) (omega arith) in
    let c : Node t.cmd = redirect x.1 (t.Simple (more n x.0)) in
    rw (opening_first r ts h (arg_begins q)) (bind (d.arg_by (r (d.a_part false)) false ts) _ (n, mid) (Staged c, rest)
    (deepen (d.arg_by (r (d.a_part false)) false ts) (n, mid)
    (arg_meets a (depth n) (most_stages n) (r (d.a_part false)) false (good_part a r gr false) q (omega arith) (omega arith)) (omega arith)
    (omega arith))
    (rw (first_simple r n mid j) (bind (d.simple_by (r (d.a_part false)) mid) _ (x, rest) (Staged c, rest)
    (deepen (d.simple_by (r (d.a_part false)) mid) (x, rest)
    (simple_meets a (max (depths x.0) (depths x.1)) (max (most_stages_in x.0) (most_stages_in x.1)) (r (d.a_part false)) (good_part a r gr false) s
    (omega arith) (omega arith) (omega arith) (omega arith))
    (omega arith) (omega arith))
    (record { met = refl }))))
stage_meets a T W r gr (g.brace_stage {ts = ts} {mid = mid} {rest = rest} {c = c} {rs = rs} q s) dt dw =
    let z = redirect_tall rs (t.Brace c) (omega arith) in
    rw (brace_opens r q) (staged_meets (suc a) T W (d.block_by r ts) (redirect rs (t.Brace c)) rest (bind (d.brace_by r ts) _ (c, mid) (redirect rs (t.Brace c), rest)
    (brace_meets a T W r gr q (omega arith) (omega arith))
    (bind (d.redirs_by (r (d.a_part false)) mid) _ (rs, rest) (redirect rs (t.Brace c), rest)
    (deepen (d.redirs_by (r (d.a_part false)) mid) (rs, rest)
    (redirs_meets a (depths rs) (most_stages_in rs) (r (d.a_part false)) (good_part a r gr false) s (omega arith) (omega arith)) (omega arith)
    (omega arith))
    (record { met = refl }))))
stage_meets a T W r gr (g.switch_stage {ts = ts} {rest = rest} {a = n} {bs = bs} {rs = rs} h q e s v) dt dw =
    rw h (staged_meets (suc a) T W (d.switch_by r (past_caret ts)) (redirect rs (t.Switch n bs)) rest (switch_meets a T W r gr q e s v dt dw))
stage_meets a T W r gr (g.match_stage {ts = ts} {rest = rest} {a = n} {as' = xs} h q s) dt dw =
    rw h (staged_meets (suc a) T W (d.match_by r (past_caret ts)) (t.Match n xs) rest (match_meets a T W r gr q s dt dw))
stage_meets a T W r gr (g.define_stage {ts = ts} {next = next} {rest = rest} {a = n} {as' = xs} {c = c} h q s v) dt dw =
    rw h (staged_meets (suc a) T W (d.define_by r (past_caret ts)) (t.Define (more n xs) c) rest (define_meets a T W r gr (t.Define (more n xs) c) q s (omega arith) (omega arith)
    (rw (brace_begins v) (bind (d.brace_by r next) _ (c, rest) (t.Define (more n xs) c, rest) (brace_meets a T W r gr v (omega arith) (omega arith)) (record { met = refl })))))
stage_meets a T W r gr (g.undefine_stage {ts = ts} {rest = rest} {a = n} {as' = xs} h q s j) dt dw =
    rw h (staged_meets (suc a) T W (d.define_by r (past_caret ts)) (t.Undefine (more n xs)) rest (define_meets a T W r gr (t.Undefine (more n xs)) q s (omega arith) (omega arith)
    (rw j (record { met = refl }))))

pub named_meets : (a T W : ℕ) (r : Readers) → Good a r → {ts : List Lexeme} {n : Node t.arg} {rest : List Lexeme} → begins_first ts ≡ true → Phrase (g.arg false) ts n (Equals ∷ rest) →
    suc (depth n) ≤ T → most_stages n ≤ W → Meets (suc a) T W (d.opening_by r ts) (Named n, rest)
unfolding d.first_by
named_meets a T W r gr {ts = ts} {n = n} {rest = rest} h q dt dw =
    rw (opening_first r ts h (arg_begins q)) (bind (d.arg_by (r (d.a_part false)) false ts) _ (n, Equals ∷ rest) (Named n, rest)
    (deepen (d.arg_by (r (d.a_part false)) false ts) (n, Equals ∷ rest) (arg_meets a (depth n) (most_stages n) (r (d.a_part false)) false (good_part a r gr false) q (omega arith) (omega arith))
    (omega arith) (omega arith))
    (record { met = refl }))

-- what an operand begins with
leading_redirected : (r : Readers) (f : Bool) (ts : List Lexeme) → begins_redir ts ≡ true → d.leading_by r f ts ≡ d.redirected_by r ts
unfolding d.leading_by
leading_redirected r f (Word text ∷ ts) h = absurd cc
leading_redirected r f ts h = refl

redir_leads : (ts : List Lexeme) → begins_redir ts ≡ true → d.begins_leading ts ≡ true
redir_leads (Word text ∷ ts) h = absurd cc
redir_leads ts h = h

pub leading_leads : {f : Bool} {ts : List Lexeme} {c : Node t.cmd} {rest : List Lexeme} → Phrase (g.leading f) ts c rest → d.begins_leading ts ≡ true
leading_leads (g.not_leading h q) = ap d.is_leading h
leading_leads (g.subshell_leading h q) = ap d.is_leading h
leading_leads (g.redir_leading {ts = ts} q s v) = redir_leads ts (redir_begins q)
leading_leads (g.if_leading h q s) = ap d.is_leading h
leading_leads (g.while_leading h q s) = ap d.is_leading h
leading_leads (g.if_not_leading h e k q) = ap d.is_leading h
leading_leads (g.for_all_leading h e q k s) = ap d.is_leading h
leading_leads (g.for_leading h e q k j s v) = ap d.is_leading h

pub first_follows : (ts : List Lexeme) → begins_first ts ≡ true → d.begins_leading ts ≡ false
first_follows (Word text ∷ ts) h = ap d.is_leading (plain_is (keyword text) h)
first_follows (Redirection mode slot ∷ ts) h = absurd cc
first_follows (CopyTo to from ∷ ts) h = absurd cc
first_follows (HereDoc quoted text ∷ ts) h = absurd cc
first_follows ts h = refl

brace_follows : {ts : List Lexeme} {c : Node t.cmd} {rest : List Lexeme} → Phrase g.brace ts c rest → d.begins_leading ts ≡ false
brace_follows (g.braced q) = refl

pub stage_follows : {ts : List Lexeme} {c : Node t.cmd} {rest : List Lexeme} → Phrase g.stage ts c rest → d.begins_leading ts ≡ false
stage_follows (g.simple_stage {ts = ts} h q j s) = first_follows ts h
stage_follows (g.brace_stage q s) = brace_follows q
stage_follows (g.switch_stage h q e s v) = ap d.is_leading h
stage_follows (g.match_stage h q s) = ap d.is_leading h
stage_follows (g.define_stage h q s v) = ap d.is_leading h
stage_follows (g.undefine_stage h q s j) = ap d.is_leading h

-- bodies of control forms
body_meets : (a T W : ℕ) (r : Readers) → Good a r → {ts : List Lexeme} {c : Node t.cmd} {rest : List Lexeme} → Phrase g.body ts c rest → suc (depth c) ≤ T → most_stages c ≤ W →
    Meets (suc a) T W (d.body_by r ts) (c, rest)
unfolding d.body_by
body_meets a T W r gr (g.no_body h k) dt dw = rw (h, k) (record { met = refl })
body_meets a T W r gr (g.one_body {ts = ts} {rest = rest} {c = c} q) dt dw =
    rw (command_commands q) (deepen (r (d.a_command false) (past_newlines ts)) (c, rest) (gr.command q) (omega arith) (omega arith))

optional_meets : (a T W : ℕ) (r : Readers) → Good a r → {ts : List Lexeme} {c : Node t.cmd} {rest : List Lexeme} → Phrase g.optional ts c rest → suc (depth c) ≤ T → most_stages c ≤ W →
    Meets (suc a) T W (d.optional_operand_by r ts) (c, rest)
unfolding d.optional_operand_by
optional_meets a T W r gr (g.no_operand h) dt dw = rw h (record { met = refl })
optional_meets a T W r gr (g.one_operand {ts = ts} {rest = rest} {c = c} q) dt dw =
    rw (operand_commands q) (deepen (r d.an_operand ts) (c, rest) (gr.operand q) (omega arith) (omega arith))

paren_conditions : (r : Readers) (f : Bool) {ts : List Lexeme} {c : Node t.cmd} {rest : List Lexeme} → Phrase g.paren ts c rest → d.if_by r f ts ≡ d.condition_by r ts
unfolding d.if_by
paren_conditions r f (g.parenthesised q) = refl

pub arg_deeper : (a T W : ℕ) (r : Readers) → Good a r → (inside : Bool) {ts : List Lexeme} {n : Node t.arg} {rest : List Lexeme} → Phrase (g.arg inside) ts n rest → suc (depth n) ≤ T →
    most_stages n ≤ W → Meets (suc a) T W (d.arg_by (r (d.a_part inside)) inside ts) (n, rest)
arg_deeper a T W r gr inside {ts = ts} {n = n} {rest = rest} q dt dw =
    deepen (d.arg_by (r (d.a_part inside)) inside ts) (n, rest) (arg_meets a (depth n) (most_stages n) (r (d.a_part inside)) inside (good_part a r gr inside) q (omega arith) (omega arith)) dt dw

members_deeper : (a T W : ℕ) (r : Readers) → Good a r → {ts : List Lexeme} {ns : Many t.arg} {rest : List Lexeme} → Phrase g.members ts ns rest → suc (depths ns) ≤ T →
    most_stages_in ns ≤ W → Meets (suc a) T W (d.members_by (r (d.a_part true)) ts) (ns, rest)
members_deeper a T W r gr {ts = ts} {ns = ns} {rest = rest} q dt dw =
    deepen (d.members_by (r (d.a_part true)) ts) (ns, rest) (members_meets a (depths ns) (most_stages_in ns) (r (d.a_part true)) (good_part a r gr true) q (omega arith) (omega arith)) dt dw

pub leading_meets : (a T W : ℕ) (r : Readers) → Good a r → {f : Bool} {ts : List Lexeme} {c : Node t.cmd} {rest : List Lexeme} → Phrase (g.leading f) ts c rest → depth c ≤ T → most_stages c ≤ W →
    Meets (suc a) T W (d.leading_by r f ts) (c, rest)
unfolding d.leading_by d.control_by d.redirected_by d.if_by d.while_by d.for_by d.over_by
leading_meets a T W r gr (g.not_leading {ts = ts} {rest = rest} {c = c} h q) dt dw =
    rw h (bind (r d.an_operand (past_caret ts)) _ (c, rest) (t.Not c, rest) (deepen (r d.an_operand (past_caret ts)) (c, rest) (gr.operand q) (omega arith) (omega arith)) (record { met = refl }))
leading_meets a T W r gr (g.subshell_leading {ts = ts} {rest = rest} {c = c} h q) dt dw =
    rw h (bind (r d.an_operand (past_caret ts)) _ (c, rest) (t.Subshell c, rest) (deepen (r d.an_operand (past_caret ts)) (c, rest) (gr.operand q) (omega arith) (omega arith)) (record { met = refl }))
leading_meets a T W r gr (g.redir_leading {after_if = f} {ts = ts} {mid = mid} {next = next} {rest = rest} {r = n} {rs = ns} {c = c} q s v) dt dw =
    rw (leading_redirected r f ts (redir_begins q)) (bind (d.redir_by (r (d.a_part false)) ts) _ (n, mid) (t.Redirect (more n ns) c, rest)
    (deepen (d.redir_by (r (d.a_part false)) ts) (n, mid)
    (redir_meets a (depth n) (most_stages n) (r (d.a_part false)) (good_part a r gr false) q (omega arith) (omega arith)) (omega arith)
    (omega arith))
    (bind (d.redirs_by (r (d.a_part false)) mid) _ (ns, next) (t.Redirect (more n ns) c, rest)
    (deepen (d.redirs_by (r (d.a_part false)) mid) (ns, next)
    (redirs_meets a (depths ns) (most_stages_in ns) (r (d.a_part false)) (good_part a r gr false) s (omega arith) (omega arith)) (omega arith)
    (omega arith))
    (bind (d.optional_operand_by r next) _ (c, rest) (t.Redirect (more n ns) c, rest) (optional_meets a T W r gr v (omega arith) (omega arith)) (record { met = refl }))))
leading_meets a T W r gr (g.if_leading {after_if = f} {ts = ts} {mid = mid} {rest = rest} {c = c} {d = e} h q s) dt dw =
    rw (h, paren_conditions r f q) (bind (d.paren_by r (past_caret ts)) _ (c, mid) (t.If c e, rest) (paren_meets a T W r gr q (omega arith) (omega arith))
    (bind (d.body_by r mid) _ (e, rest) (t.If c e, rest) (body_meets a T W r gr s (omega arith) (omega arith)) (record { met = refl })))
leading_meets a T W r gr (g.while_leading {ts = ts} {mid = mid} {rest = rest} {c = c} {d = e} h q s) dt dw =
    rw h (bind (d.paren_by r (past_caret ts)) _ (c, mid) (t.While c e, rest) (paren_meets a T W r gr q (omega arith) (omega arith))
    (bind (d.body_by r mid) _ (e, rest) (t.While c e, rest) (body_meets a T W r gr s (omega arith) (omega arith)) (record { met = refl })))
leading_meets a T W r gr (g.if_not_leading {next = next} {rest = rest} {d = e} h k j q) dt dw =
    rw (h, k, j) (bind (d.body_by r (past_caret next)) _ (e, rest) (t.IfNot e, rest) (body_meets a T W r gr q (omega arith) (omega arith)) (record { met = refl }))
leading_meets a T W r gr (g.for_all_leading {head = head} {mid = mid} {next = next} {rest = rest} {a = n} {d = e} h k q j s) dt dw =
    rw (h, k) (bind (d.arg_by (r (d.a_part true)) true (past_newlines head)) _ (n, mid) (t.ForAll n e, rest) (arg_deeper a T W r gr true q (omega arith) (omega arith))
    (rw j (bind (d.body_by r next) _ (e, rest) (t.ForAll n e, rest) (body_meets a T W r gr s (omega arith) (omega arith)) (record { met = refl }))))
leading_meets a T W r gr (g.for_leading {head = head} {mid = mid} {list = list} {next = next} {rest = rest} {a = n} {as' = ns} {d = e} h k q j m s v) dt dw =
    rw (h, k) (bind (d.arg_by (r (d.a_part true)) true (past_newlines head)) _ (n, mid) (t.For n ns e, rest) (arg_deeper a T W r gr true q (omega arith) (omega arith))
    (rw (j, m) (bind (d.members_by (r (d.a_part true)) (past_caret list)) _ (ns, next) (t.For n ns e, rest) (members_deeper a T W r gr s (omega arith) (omega arith))
    (bind (d.body_by r next) _ (e, rest) (t.For n ns e, rest) (body_meets a T W r gr v (omega arith) (omega arith)) (record { met = refl })))))
