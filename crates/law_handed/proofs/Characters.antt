-- The tree of an accepted text is one that a shell holds.
use Rattle.std.proofs.Common.{◌≡◌, sym, subst, refl, ℕ, Bool, true, false, ◌&&◌, List, ◌∷◌}
use Rattle.std.proofs.lemmas.Bool.{and_from}
use Rattle.std.proofs.lemmas.Str.{is_utf8-from_IsUtf8}
use Rattle.rc_model.specs.Syntax.Tree.{Sort, Node, Many, none, more}
use Rattle.rc_model.specs.Syntax.Tree as t
use Rattle.rc_model.specs.Syntax.Tokens.{Lexeme}
use Rattle.rc_model.specs.Syntax.Tokens as k
use Rattle.rc_model.specs.Syntax.Grammar.{Level, Out, Phrase, past_blanks, concat_of, redirect, stages_of, last_of, pipeline, and_or}
use Rattle.rc_model.specs.Syntax.Grammar as g
use Rattle.rc_model.specs.Mirrors.Spelling.{IsText, IsWord, IsName, AreSpelled}
use Rattle.rc_model.specs.Handed.TreeSpelling.{has_characters}
use Rattle.rc_model.specs.Handed.HandedLaws.{AcceptedAreProper}
use Rattle.law_syntax.proofs.Passed.{past_newlines_spelled, past_blanks_spelled, past_caret_spelled, after_caret_spelled}
use Rattle.law_syntax.proofs.Decided.{accepted_formed, are_spelled}
use Rattle.law_handed.proofs.Bodies.{all_have, name_utf8, pieces_whole}

-- the texts of a tree are of whole characters, and those of each of several
abbrev IsWhole : {s : Sort} → Node s → Type 0
IsWhole n = has_characters n ≡ true

abbrev AreWhole : {s : Sort} → Many s → Type 0
AreWhole ns = all_have ns ≡ true

both : {p q : Bool} → p ≡ true → q ≡ true → (p && q) ≡ true
both {p} {q} x y = and_from p q x y

quoted_whole : (text : List ℕ) → IsText text → IsWhole (t.Lit text true)
quoted_whole text x = is_utf8-from_IsUtf8 text x.0

word_whole : (text : List ℕ) → IsWord text → IsWhole (t.Lit text false)
word_whole text x = is_utf8-from_IsUtf8 text x.0.0

bare_name_whole : (text : List ℕ) → IsName text → IsWhole (t.Lit text false)
bare_name_whole text x = is_utf8-from_IsUtf8 text (name_utf8 text x.1)

concat_whole : (a : Node t.arg) (as' : Many t.arg) → IsWhole a → AreWhole as' → IsWhole (concat_of a as')
concat_whole a none x y = x
concat_whole a (more p ps) x y = both x y

redirect_whole : (rs : Many t.redir) (c : Node t.cmd) → AreWhole rs → IsWhole c → IsWhole (redirect rs c)
redirect_whole none c x y = y
redirect_whole (more r rs) c x y = both x y

and_or_whole : (c : Node t.cmd) (ls : Many t.link) → IsWhole c → AreWhole ls → IsWhole (and_or c ls)
and_or_whole c none x y = x
and_or_whole c (more l ls) x y = both x y

-- so is each of some stages, whose bars stand before them
abbrev AreStages : Many t.stage → Type 0
AreStages none = Unit {0}
AreStages (more (t.Stage c slot) ss) = IsWhole c × AreStages ss

stages_whole : (ss : Many t.stage) → AreStages ss → AreWhole ss
stages_whole none x = refl
stages_whole (more (t.Stage c slot) ss) x = both x.0 (stages_whole ss x.1)

moved : (c : Node t.cmd) (ss : Many t.stage) → IsWhole c → AreStages ss → AreStages (stages_of c ss) × IsWhole (last_of c ss)
moved c none x y = (tt, x)
moved c (more (t.Stage d slot) ss) x y = let rest = moved d ss y.0 y.1 in ((x, rest.0), rest.1)

pipeline_whole : (c : Node t.cmd) (ss : Many t.stage) → IsWhole c → AreStages ss → IsWhole (pipeline c ss)
pipeline_whole c none x y = x
pipeline_whole c (more (t.Stage d slot) ss) x y =
    let m = moved c (more (t.Stage d slot) ss) x y in
    both (stages_whole (stages_of c (more (t.Stage d slot) ss)) m.0) m.1

-- what is said of the tree of each level
abbrev Holds : (l : Level) → Out l → Type 0
Holds g.name n = IsWhole n
Holds (g.part inside) a = IsWhole a
Holds (g.arg inside) a = IsWhole a
Holds (g.parts inside) as' = AreWhole as'
Holds g.members as' = AreWhole as'
Holds g.words as' = AreWhole as'
Holds g.redir r = IsWhole r
Holds g.redirs rs = AreWhole rs
Holds g.simple x = AreWhole x.0 × AreWhole x.1
Holds g.brace c = IsWhole c
Holds g.paren c = IsWhole c
Holds g.stage c = IsWhole c
Holds g.bars ss = AreStages ss
Holds g.pipe c = IsWhole c
Holds (g.leading after_if) c = IsWhole c
Holds g.assigned c = IsWhole c
Holds g.values x = AreWhole x.0 × IsWhole x.1
Holds (g.operand after_if) c = IsWhole c
Holds g.optional c = IsWhole c
Holds g.links ls = AreWhole ls
Holds (g.command after_if) c = IsWhole c
Holds g.body c = IsWhole c
Holds (g.items in_switch after_if) is = AreWhole is
Holds (g.after in_switch after_if) x = AreWhole x.1
Holds g.branches bs = AreWhole bs

whole_of : {l : Level} {ts rest : List Lexeme} {x : Out l} → Phrase l ts x rest → AreSpelled ts → Holds l x × AreSpelled rest
whole_of (g.bare_name {text = text}) w = (bare_name_whole text w.0, w.1)
whole_of (g.quoted_name {text = text}) w = (quoted_whole text w.0, w.1)
whole_of (g.named_name p) w = let b = whole_of p w.1 in (b.0, b.1)
whole_of (g.word_part {text = text}) w = (word_whole text w.0, w.1)
whole_of (g.quoted_part {text = text}) w = (quoted_whole text w.0, w.1)
whole_of (g.paren_part p) w = let b = whole_of p w.1 in (b.0, b.1)
whole_of (g.back_part {inside = inside} {ts = ts} p) w = let b = whole_of p (past_blanks_spelled inside ts w.1) in (b.0, b.1)
whole_of (g.var_part p e) w = let b = whole_of p w.1 in (b.0, b.1)
whole_of (g.sub_part p q) w = let a = whole_of p w.1 in let b = whole_of q a.1.1 in (both a.0 b.0, b.1)
whole_of (g.count_part p) w = let b = whole_of p w.1 in (b.0, b.1)
whole_of (g.flat_part p) w = let b = whole_of p w.1 in (b.0, b.1)
whole_of (g.joined {a = a} {as' = as'} p q) w = let b = whole_of p w in let c = whole_of q b.1 in (concat_whole a as' b.0 c.0, c.1)
whole_of (g.no_caret e) w = (refl, w)
whole_of (g.caret {inside = inside} {ts = ts} {next = next} e p q) w =
    let n = after_caret_spelled (past_blanks inside ts) next e (past_blanks_spelled inside ts w) in
    let b = whole_of p (past_blanks_spelled inside next n) in
    let c = whole_of q b.1 in
    (both b.0 c.0, c.1)
whole_of g.no_member w = (refl, w.1)
whole_of (g.blank_member p) w = whole_of p w.1
whole_of (g.member p q) w = let b = whole_of p w in let c = whole_of q b.1 in (both b.0 c.0, c.1)
whole_of (g.no_word e) w = (refl, w)
whole_of (g.word p q) w = let b = whole_of p w in let c = whole_of q b.1 in (both b.0 c.0, c.1)
whole_of (g.open_redir p) w = let b = whole_of p w.1 in (b.0, b.1)
whole_of g.copy_redir w = (refl, w.1)
whole_of (g.here_redir {quoted = quoted} {text = text}) w = (pieces_whole quoted text w.0.0, w.1)
whole_of (g.no_redir e) w = (refl, w)
whole_of (g.redir_more p q) w = let b = whole_of p w in let c = whole_of q b.1 in (both b.0 c.0, c.1)
whole_of (g.simple_end e f) w = ((refl, refl), w)
whole_of (g.simple_word p q) w = let b = whole_of p w in let c = whole_of q b.1 in ((both b.0 c.0.0, c.0.1), c.1)
whole_of (g.simple_redir p q) w = let b = whole_of p w in let c = whole_of q b.1 in ((c.0.0, both b.0 c.0.1), c.1)
whole_of (g.braced p) w = let b = whole_of p w.1 in (b.0, b.1.1)
whole_of (g.parenthesised p) w = let b = whole_of p w.1 in (b.0, b.1.1)
whole_of (g.simple_stage {a = a} {x = x} e p f q) w =
    let b = whole_of p w in
    let c = whole_of q b.1 in
    (redirect_whole x.1 (t.Simple (more a x.0)) c.0.1 (both b.0 c.0.0), c.1)
whole_of (g.brace_stage {c = c} {rs = rs} p q) w = let b = whole_of p w in let d = whole_of q b.1 in (redirect_whole rs (t.Brace c) d.0 (b.0), d.1)
whole_of (g.switch_stage {ts = ts} {mid = mid} {inner = inner} {a = a} {bs = bs} {rs = rs} kw p e q r) w =
    let b = whole_of p (past_caret_spelled ts w.1) in
    let open' : AreSpelled (k.LeftBrace ∷ inner) = subst AreSpelled e (past_newlines_spelled mid b.1) in
    let c = whole_of q open'.1 in
    let d = whole_of r c.1.1 in
    (redirect_whole rs (t.Switch a bs) d.0 (both b.0 c.0), d.1)
whole_of (g.match_stage {ts = ts} kw p q) w = let b = whole_of p (past_caret_spelled ts w.1) in let c = whole_of q b.1 in (both b.0 c.0, c.1)
whole_of (g.define_stage {ts = ts} {a = a} {as' = as'} kw p q r) w =
    let b = whole_of p (past_caret_spelled ts w.1) in
    let c = whole_of q b.1 in
    let d = whole_of r c.1 in
    (both (both b.0 c.0) d.0, d.1)
whole_of (g.undefine_stage {ts = ts} {a = a} {as' = as'} kw p q e) w = let b = whole_of p (past_caret_spelled ts w.1) in let c = whole_of q b.1 in (both b.0 c.0, c.1)
whole_of (g.piped {c = c} {ss = ss} p q) w = let b = whole_of p w in let d = whole_of q b.1 in (pipeline_whole c ss b.0 d.0, d.1)
whole_of (g.no_bar e) w = (tt, w)
whole_of (g.bar_stage {ts = ts} p q) w = let b = whole_of p (past_newlines_spelled ts w.1) in let c = whole_of q b.1 in ((b.0, c.0), c.1)
whole_of (g.bar_leading {ts = ts} p) w = let b = whole_of p (past_newlines_spelled ts w.1) in ((b.0, tt), b.1)
whole_of (g.bar_assigned {ts = ts} p) w = let b = whole_of p (past_newlines_spelled ts w.1) in ((b.0, tt), b.1)
whole_of (g.not_leading {ts = ts} kw p) w = let b = whole_of p (past_caret_spelled ts w.1) in (b.0, b.1)
whole_of (g.subshell_leading {ts = ts} kw p) w = let b = whole_of p (past_caret_spelled ts w.1) in (b.0, b.1)
whole_of (g.redir_leading {r = redir} {rs = rs} p q r) w = let b = whole_of p w in let c = whole_of q b.1 in let d = whole_of r c.1 in (both (both b.0 c.0) d.0, d.1)
whole_of (g.if_leading {ts = ts} kw p q) w = let b = whole_of p (past_caret_spelled ts w.1) in let c = whole_of q b.1 in (both b.0 c.0, c.1)
whole_of (g.while_leading {ts = ts} kw p q) w = let b = whole_of p (past_caret_spelled ts w.1) in let c = whole_of q b.1 in (both b.0 c.0, c.1)
whole_of (g.if_not_leading {next_text = text} {ts = ts} {next = next} kw e f p) w =
    let not' : AreSpelled (k.Word text ∷ next) = subst AreSpelled e (past_caret_spelled ts w.1) in
    let b = whole_of p (past_caret_spelled next not'.1) in
    (b.0, b.1)
whole_of (g.for_all_leading {ts = ts} {head = head} {mid = mid} {next = next} kw e p f q) w =
    let open' : AreSpelled (k.LeftParen ∷ head) = subst AreSpelled e (past_caret_spelled ts w.1) in
    let b = whole_of p (past_newlines_spelled head open'.1) in
    let close' : AreSpelled (k.RightParen ∷ next) = subst AreSpelled f (past_newlines_spelled mid b.1) in
    let c = whole_of q close'.1 in
    (both b.0 c.0, c.1)
whole_of (g.for_leading {next_text = text} {ts = ts} {head = head} {mid = mid} {list = list} kw e p f i q r) w =
    let open' : AreSpelled (k.LeftParen ∷ head) = subst AreSpelled e (past_caret_spelled ts w.1) in
    let b = whole_of p (past_newlines_spelled head open'.1) in
    let in' : AreSpelled (k.Word text ∷ list) = subst AreSpelled f (past_newlines_spelled mid b.1) in
    let c = whole_of q (past_caret_spelled list in'.1) in
    let d = whole_of r c.1 in
    (both b.0 (both c.0 d.0), d.1)
whole_of (g.assignment {a = a} {v = v} {x = x} e p q r) w = let b = whole_of p w in let c = whole_of q b.1.1 in let d = whole_of r c.1 in (both (both (both b.0 c.0) d.0.0) d.0.1, d.1)
whole_of (g.another_value e p q r) w = let b = whole_of p w in let c = whole_of q b.1.1 in let d = whole_of r c.1 in ((both (both b.0 c.0) d.0.0, d.0.1), d.1)
whole_of (g.values_alone e) w = ((refl, refl), w)
whole_of (g.values_leading p) w = let b = whole_of p w in ((refl, b.0), b.1)
whole_of (g.values_pipe p) w = let b = whole_of p w in ((refl, b.0), b.1)
whole_of (g.leading_operand p) w = whole_of p w
whole_of (g.assigned_operand p) w = whole_of p w
whole_of (g.pipe_operand p) w = whole_of p w
whole_of (g.no_operand e) w = (refl, w)
whole_of (g.one_operand p) w = whole_of p w
whole_of (g.linked {c = c} {ls = ls} p q) w = let b = whole_of p w in let d = whole_of q b.1 in (and_or_whole c ls b.0 d.0, d.1)
whole_of (g.no_link e) w = (refl, w)
whole_of (g.and_link {ts = ts} p q) w = let b = whole_of p (past_newlines_spelled ts w.1) in let c = whole_of q b.1 in (both b.0 c.0, c.1)
whole_of (g.or_link {ts = ts} p q) w = let b = whole_of p (past_newlines_spelled ts w.1) in let c = whole_of q b.1 in (both b.0 c.0, c.1)
whole_of (g.no_body {ts = ts} e f) w = (refl, past_newlines_spelled ts w)
whole_of (g.one_body {ts = ts} p) w = whole_of p (past_newlines_spelled ts w)
whole_of (g.no_item e) w = (refl, w)
whole_of (g.semicolon_item p) w = whole_of p w.1
whole_of (g.newline_item p) w = whole_of p w.1
whole_of (g.one_item e p q) w = let b = whole_of p w in let c = whole_of q b.1 in (both b.0 c.0, c.1)
whole_of (g.after_last e) w = (refl, w)
whole_of (g.after_semicolon p) w = whole_of p w.1
whole_of (g.after_newline p) w = whole_of p w.1
whole_of (g.after_background p) w = whole_of p w.1
whole_of g.no_branch w = (refl, w)
whole_of (g.semicolon_branch p) w = whole_of p w.1
whole_of (g.newline_branch p) w = whole_of p w.1
whole_of (g.one_branch {ts = ts} kw p e q r) w =
    let b = whole_of p (past_caret_spelled ts w.1) in
    let c = whole_of q b.1 in
    let d = whole_of r c.1 in
    (both (both b.0 c.0) d.0, d.1)

pub accepted_are_scripts : AcceptedAreProper
accepted_are_scripts text c a =
    let items = (whole_of a.tree_is.script.1 (are_spelled a.has)).0 in
    let whole : IsWhole (t.Seq a.tree_is.script.0) = items in
    record { sound = accepted_formed text c a; characters = subst IsWhole (sym a.tree_is.script.2) whole }
