-- A tree of spelled lexemes can be written.
use Rattle.std.proofs.Common.{sym, subst, List, ◌∷◌}
use Rattle.rc_model.specs.Syntax.Tree.{Node, Many, none, more}
use Rattle.rc_model.specs.Syntax.Tree as t
use Rattle.rc_model.specs.Syntax.Tokens.{Lexeme}
use Rattle.rc_model.specs.Syntax.Tokens as k
use Rattle.rc_model.specs.Syntax.Grammar.{Level, Out, Phrase, past_blanks, concat_of, redirect, stages_of, last_of, pipeline, and_or}
use Rattle.rc_model.specs.Syntax.Grammar as g
use Rattle.rc_model.specs.Mirrors.Spelling.{AreSpelled}
use Rattle.law_syntax.proofs.Passed.{past_newlines_spelled, past_blanks_spelled, past_caret_spelled, after_caret_spelled}
use Rattle.law_print.specs.Lexemes.{IsWritable, IsWritableName, AreWritable}

-- what is said of the tree of each level
abbrev pub Writes : (l : Level) → Out l → Type 0
Writes g.name n = IsWritableName n
Writes (g.part inside) a = IsWritable a
Writes (g.arg inside) a = IsWritable a
Writes (g.parts inside) as' = AreWritable as'
Writes g.members as' = AreWritable as'
Writes g.words as' = AreWritable as'
Writes g.redir r = IsWritable r
Writes g.redirs rs = AreWritable rs
Writes g.simple x = AreWritable x.0 × AreWritable x.1
Writes g.brace c = IsWritable c
Writes g.paren c = IsWritable c
Writes g.stage c = IsWritable c
Writes g.bars ss = AreWritable ss
Writes g.pipe c = IsWritable c
Writes (g.leading after_if) c = IsWritable c
Writes g.assigned c = IsWritable c
Writes g.values x = AreWritable x.0 × IsWritable x.1
Writes (g.operand after_if) c = IsWritable c
Writes g.optional c = IsWritable c
Writes g.links ls = AreWritable ls
Writes (g.command after_if) c = IsWritable c
Writes g.body c = IsWritable c
Writes (g.items in_switch after_if) is = AreWritable is
Writes (g.after in_switch after_if) x = AreWritable x.1
Writes g.branches bs = AreWritable bs

concat_writes : (a : Node t.arg) (as' : Many t.arg) → IsWritable a → AreWritable as' → IsWritable (concat_of a as')
unfolding IsWritable
concat_writes a none w v = w
concat_writes a (more p ps) w v = (w, v)

redirect_writes : (rs : Many t.redir) (c : Node t.cmd) → AreWritable rs → IsWritable c → IsWritable (redirect rs c)
unfolding IsWritable
redirect_writes none c w v = v
redirect_writes (more r rs) c w v = (w, v)

stages_writes : (c : Node t.cmd) (ss : Many t.stage) → IsWritable c → AreWritable ss → AreWritable (stages_of c ss) × IsWritable (last_of c ss)
unfolding IsWritable
stages_writes c none w v = (tt, w)
stages_writes c (more (t.Stage d slot) ss) w v = let rest = stages_writes d ss v.0.1 v.1 in (((v.0.0, w), rest.0), rest.1)

pipeline_writes : (c : Node t.cmd) (ss : Many t.stage) → IsWritable c → AreWritable ss → IsWritable (pipeline c ss)
unfolding IsWritable
pipeline_writes c none w v = w
pipeline_writes c (more s ss) w v = stages_writes c (more s ss) w v

and_or_writes : (c : Node t.cmd) (ls : Many t.link) → IsWritable c → AreWritable ls → IsWritable (and_or c ls)
unfolding IsWritable
and_or_writes c none w v = w
and_or_writes c (more l ls) w v = (w, v)

pub written : {l : Level} {ts rest : List Lexeme} {x : Out l} → Phrase l ts x rest → AreSpelled ts → Writes l x × AreSpelled rest
unfolding IsWritable IsWritableName AreWritable
written g.bare_name w = (w.0, w.1)
written g.quoted_name w = (w.0, w.1)
written (g.named_name p) w = written p w.1
written g.word_part w = (w.0, w.1)
written g.quoted_part w = (w.0, w.1)
written (g.paren_part p) w = written p w.1
written (g.back_part {inside = inside} {ts = ts} p) w = written p (past_blanks_spelled inside ts w.1)
written (g.var_part p e) w = written p w.1
written (g.sub_part p q) w = let a = written p w.1 in let b = written q a.1.1 in ((a.0, b.0), b.1)
written (g.count_part p) w = written p w.1
written (g.flat_part p) w = written p w.1
written (g.joined {a = a} {as' = as'} p q) w = let b = written p w in let c = written q b.1 in (concat_writes a as' b.0 c.0, c.1)
written (g.no_caret e) w = (tt, w)
written (g.caret {inside = inside} {ts = ts} {next = next} e p q) w =
    let n = after_caret_spelled (past_blanks inside ts) next e (past_blanks_spelled inside ts w) in
    let b = written p (past_blanks_spelled inside next n) in
    let c = written q b.1 in
    ((b.0, c.0), c.1)
written g.no_member w = (tt, w.1)
written (g.blank_member p) w = written p w.1
written (g.member p q) w = let b = written p w in let c = written q b.1 in ((b.0, c.0), c.1)
written (g.no_word e) w = (tt, w)
written (g.word p q) w = let b = written p w in let c = written q b.1 in ((b.0, c.0), c.1)
written (g.open_redir p) w = let b = written p w.1 in ((w.0, b.0), b.1)
written g.copy_redir w = (w.0, w.1)
written g.here_redir w = (tt, w.1)
written (g.no_redir e) w = (tt, w)
written (g.redir_more p q) w = let b = written p w in let c = written q b.1 in ((b.0, c.0), c.1)
written (g.simple_end e f) w = ((tt, tt), w)
written (g.simple_word p q) w = let b = written p w in let c = written q b.1 in (((b.0, c.0.0), c.0.1), c.1)
written (g.simple_redir p q) w = let b = written p w in let c = written q b.1 in ((c.0.0, (b.0, c.0.1)), c.1)
written (g.braced p) w = let b = written p w.1 in (b.0, b.1.1)
written (g.parenthesised p) w = let b = written p w.1 in (b.0, b.1.1)
written (g.simple_stage {a = a} {x = x} e p f q) w =
    let b = written p w in
    let c = written q b.1 in
    (redirect_writes x.1 (t.Simple (more a x.0)) c.0.1 (b.0, c.0.0), c.1)
written (g.brace_stage {c = c} {rs = rs} p q) w = let b = written p w in let d = written q b.1 in (redirect_writes rs (t.Brace c) d.0 b.0, d.1)
written (g.switch_stage {ts = ts} {mid = mid} {inner = inner} {a = a} {bs = bs} {rs = rs} kw p e q r) w =
    let b = written p (past_caret_spelled ts w.1) in
    let open' : AreSpelled (k.LeftBrace ∷ inner) = subst AreSpelled e (past_newlines_spelled mid b.1) in
    let c = written q open'.1 in
    let d = written r c.1.1 in
    (redirect_writes rs (t.Switch a bs) d.0 (b.0, c.0), d.1)
written (g.match_stage {ts = ts} kw p q) w = let b = written p (past_caret_spelled ts w.1) in let c = written q b.1 in ((b.0, c.0), c.1)
written (g.define_stage {ts = ts} kw p q r) w =
    let b = written p (past_caret_spelled ts w.1) in
    let c = written q b.1 in
    let d = written r c.1 in
    (((b.0, c.0), d.0), d.1)
written (g.undefine_stage {ts = ts} kw p q e) w = let b = written p (past_caret_spelled ts w.1) in let c = written q b.1 in ((b.0, c.0), c.1)
written (g.piped {c = c} {ss = ss} p q) w = let b = written p w in let d = written q b.1 in (pipeline_writes c ss b.0 d.0, d.1)
written (g.no_bar e) w = (tt, w)
written (g.bar_stage {ts = ts} p q) w = let b = written p (past_newlines_spelled ts w.1) in let c = written q b.1 in (((w.0, b.0), c.0), c.1)
written (g.bar_leading {ts = ts} p) w = let b = written p (past_newlines_spelled ts w.1) in (((w.0, b.0), tt), b.1)
written (g.bar_assigned {ts = ts} p) w = let b = written p (past_newlines_spelled ts w.1) in (((w.0, b.0), tt), b.1)
written (g.not_leading {ts = ts} kw p) w = written p (past_caret_spelled ts w.1)
written (g.subshell_leading {ts = ts} kw p) w = written p (past_caret_spelled ts w.1)
written (g.redir_leading p q r) w = let b = written p w in let c = written q b.1 in let d = written r c.1 in (((b.0, c.0), d.0), d.1)
written (g.if_leading {ts = ts} kw p q) w = let b = written p (past_caret_spelled ts w.1) in let c = written q b.1 in ((b.0, c.0), c.1)
written (g.while_leading {ts = ts} kw p q) w = let b = written p (past_caret_spelled ts w.1) in let c = written q b.1 in ((b.0, c.0), c.1)
written (g.if_not_leading {next_text = text} {ts = ts} {next = next} kw e f p) w =
    let not' : AreSpelled (k.Word text ∷ next) = subst AreSpelled e (past_caret_spelled ts w.1) in
    written p (past_caret_spelled next not'.1)
written (g.for_all_leading {ts = ts} {head = head} {mid = mid} {next = next} kw e p f q) w =
    let open' : AreSpelled (k.LeftParen ∷ head) = subst AreSpelled e (past_caret_spelled ts w.1) in
    let b = written p (past_newlines_spelled head open'.1) in
    let close' : AreSpelled (k.RightParen ∷ next) = subst AreSpelled f (past_newlines_spelled mid b.1) in
    let c = written q close'.1 in
    ((b.0, c.0), c.1)
written (g.for_leading {next_text = text} {ts = ts} {head = head} {mid = mid} {list = list} kw e p f i q r) w =
    let open' : AreSpelled (k.LeftParen ∷ head) = subst AreSpelled e (past_caret_spelled ts w.1) in
    let b = written p (past_newlines_spelled head open'.1) in
    let in' : AreSpelled (k.Word text ∷ list) = subst AreSpelled f (past_newlines_spelled mid b.1) in
    let c = written q (past_caret_spelled list in'.1) in
    let d = written r c.1 in
    ((b.0, (c.0, d.0)), d.1)
written (g.assignment e p q r) w = let b = written p w in let c = written q b.1.1 in let d = written r c.1 in ((((b.0, c.0), d.0.0), d.0.1), d.1)
written (g.another_value e p q r) w = let b = written p w in let c = written q b.1.1 in let d = written r c.1 in ((((b.0, c.0), d.0.0), d.0.1), d.1)
written (g.values_alone e) w = ((tt, tt), w)
written (g.values_leading p) w = let b = written p w in ((tt, b.0), b.1)
written (g.values_pipe p) w = let b = written p w in ((tt, b.0), b.1)
written (g.leading_operand p) w = written p w
written (g.assigned_operand p) w = written p w
written (g.pipe_operand p) w = written p w
written (g.no_operand e) w = (tt, w)
written (g.one_operand p) w = written p w
written (g.linked {c = c} {ls = ls} p q) w = let b = written p w in let d = written q b.1 in (and_or_writes c ls b.0 d.0, d.1)
written (g.no_link e) w = (tt, w)
written (g.and_link {ts = ts} p q) w = let b = written p (past_newlines_spelled ts w.1) in let c = written q b.1 in ((b.0, c.0), c.1)
written (g.or_link {ts = ts} p q) w = let b = written p (past_newlines_spelled ts w.1) in let c = written q b.1 in ((b.0, c.0), c.1)
written (g.no_body {ts = ts} e f) w = (tt, past_newlines_spelled ts w)
written (g.one_body {ts = ts} p) w = written p (past_newlines_spelled ts w)
written (g.no_item e) w = (tt, w)
written (g.semicolon_item p) w = written p w.1
written (g.newline_item p) w = written p w.1
written (g.one_item e p q) w = let b = written p w in let c = written q b.1 in ((b.0, c.0), c.1)
written (g.after_last e) w = (tt, w)
written (g.after_semicolon p) w = written p w.1
written (g.after_newline p) w = written p w.1
written (g.after_background p) w = written p w.1
written g.no_branch w = (tt, w)
written (g.semicolon_branch p) w = written p w.1
written (g.newline_branch p) w = written p w.1
written (g.one_branch {ts = ts} kw p e q r) w =
    let b = written p (past_caret_spelled ts w.1) in
    let c = written q b.1 in
    let d = written r c.1 in
    (((b.0, c.0), d.0), d.1)

-- a script's tree can be written
pub script_written : (ts : List Lexeme) (c : Node t.cmd) → g.HaveTree ts c → AreSpelled ts → IsWritable c
unfolding IsWritable
script_written ts c s w = subst IsWritable (sym s.2) (written s.1 w).0
