-- What was read from any tokens is read again where it is printed.
use Rattle.std.proofs.Common.{◌≡◌, refl, sym, subst, Bool, true, false, not, ◌&&◌, ◌||◌, List, [], ◌∷◌, append-nil}
use Rattle.rc_model.specs.Syntax.Tokens.{Lexeme, Word}
use Rattle.rc_model.specs.Syntax.Tree.{Node, Many, more}
use Rattle.rc_model.specs.Syntax.Tree as t
use Rattle.rc_model.specs.Syntax.Grammar.{Phrase, Level, Out, HaveTree, past_newlines, past_caret, ends, begins_redir}
use Rattle.rc_model.specs.Syntax.Grammar as g
use Rattle.rc_model.specs.Syntax.Printing.{has_here, have_here, begins_with_case}
use Rattle.law_print.specs.Lexemes.{cmd_lexemes}
use Rattle.law_print.proofs.Follows.{Opens, ArgOpens, arg_open, at_end}
use Rattle.law_print.proofs.Heres.{or_first, or_second, here_concat, here_redirect, here_pipeline, here_and_or}
use Rattle.law_print.proofs.Heads.{arg_first, arg_case, arg_calm, body_end}
use Rattle.law_syntax.proofs.Beginnings.{redir_begins}
use Rattle.law_print.proofs.Arguments.{PrintsName, PrintsPart, PrintsArg, PrintsRedir, PrintsParts, PrintsArgs, PrintsRedirs, concat_prints}
use Rattle.law_print.proofs.Parts as p
use Rattle.law_print.proofs.Commands.{PrintsBrace, PrintsParen, PrintsStage, Prints, AsLeading, AsAssigned, AsPipe, AsOperand, stage_prints, simple_firm}
use Rattle.law_print.proofs.Operands.{brace_firm, switch_firm, PrintsBars, no_bars, more_bars, leading_bar, assigned_bar, pipe_prints, leading_prints}
use Rattle.law_print.proofs.Operands.{assigned_prints, piped_prints, PrintsOptional, no_operand_prints, operand_prints, redir_prints}
use Rattle.law_print.proofs.Forms.{match_prints, define_prints, undefine_prints, PrintsBody, PrintsCommand, no_body_prints, one_body_prints, not_prints}
use Rattle.law_print.proofs.Forms.{subshell_prints, if_prints, while_prints, if_not_prints, for_all_prints, for_prints, PrintsValues, no_values}
use Rattle.law_print.proofs.Forms.{leading_values, pipe_values, more_values, assign_prints, PrintsLinks, no_links, and_links, or_links, command_prints}
use Rattle.law_print.proofs.Lists.{PrintsItems, no_items, more_items, flag, list_print, brace_print, paren_print, PrintsCases, no_cases, more_cases}

-- an item of a branch doesn't begin as a case line
abbrev Starts : (begins : Bool) → List Lexeme → Type 0
Starts begins ts = begins ≡ true → ends true ts ≡ false

calm : (ts : List Lexeme) → Starts false ts
calm ts e = absurd cc

-- what is known of the trees of each level
abbrev Claim : (l : Level) → List Lexeme → Out l → List Lexeme → Type 0
Claim g.name ts n rest = PrintsName n
Claim (g.part inside) ts a rest = has_here a ≡ false → PrintsPart a
Claim (g.arg inside) ts a rest = has_here a ≡ false → PrintsArg a
Claim (g.parts inside) ts as' rest = have_here as' ≡ false → PrintsParts as'
Claim g.members ts as' rest = have_here as' ≡ false → PrintsArgs as'
Claim g.words ts as' rest = have_here as' ≡ false → PrintsArgs as'
Claim g.redir ts r rest = has_here r ≡ false → PrintsRedir r
Claim g.redirs ts rs rest = have_here rs ≡ false → PrintsRedirs rs
Claim g.simple ts x rest = have_here x.0 ≡ false → have_here x.1 ≡ false → PrintsArgs x.0 × PrintsRedirs x.1
Claim g.brace ts c rest = has_here c ≡ false → PrintsBrace c
Claim g.paren ts c rest = has_here c ≡ false → PrintsParen c
Claim g.stage ts c rest = (begins : Bool) → Starts begins ts → has_here c ≡ false → PrintsStage begins ts c
Claim g.bars ts ss rest = have_here ss ≡ false → PrintsBars rest ss
Claim g.pipe ts c rest = (begins : Bool) → Starts begins ts → has_here c ≡ false → Prints AsPipe begins ts rest c
Claim (g.leading after_if) ts c rest = (begins : Bool) → Starts begins ts → has_here c ≡ false → Prints (AsLeading after_if) begins ts rest c
Claim g.assigned ts c rest = (begins : Bool) → Starts begins ts → has_here c ≡ false → Prints AsAssigned begins ts rest c
Claim g.values ts x rest = have_here x.0 ≡ false → has_here x.1 ≡ false → PrintsValues rest x
Claim (g.operand after_if) ts c rest = (begins : Bool) → Starts begins ts → has_here c ≡ false → Prints (AsOperand after_if) begins ts rest c
Claim g.optional ts c rest = has_here c ≡ false → PrintsOptional ts rest c
Claim g.links ts ls rest = have_here ls ≡ false → PrintsLinks ts ls
Claim (g.command after_if) ts c rest = (begins : Bool) → Starts begins ts → has_here c ≡ false → PrintsCommand after_if begins c
Claim g.body ts d rest = has_here d ≡ false → PrintsBody d
Claim (g.items in_switch after_if) ts is rest = have_here is ≡ false → PrintsItems in_switch after_if is
Claim (g.after in_switch after_if) ts x rest = have_here x.1 ≡ false → PrintsItems in_switch (flag x.0 after_if) x.1
Claim g.branches ts bs rest = have_here bs ≡ false → PrintsCases bs

-- redirections are as many as there are
redirs_stop : {ts rest : List Lexeme} {rs : Many t.redir} → Phrase g.redirs ts rs rest → begins_redir rest ≡ false
redirs_stop (g.no_redir h) = h
redirs_stop (g.redir_more p q) = redirs_stop q

-- a command of words is no case line
stands : (begins : Bool) (a : Node t.arg) → (begins ≡ true → begins_with_case a ≡ false) → not (begins && begins_with_case a) ≡ true
stands true a h = rw (h refl) refl
stands false a h = refl

opens_at : (begins : Bool) {ls : List Lexeme} → (begins ≡ true → Opens true ls) → ArgOpens ls → Opens begins ls
opens_at true h o = h refl
opens_at false h o = arg_open o

pub prints : {l : Level} {ts : List Lexeme} {x : Out l} {rest : List Lexeme} → Phrase l ts x rest → Claim l ts x rest
prints (g.bare_name {text = text}) = p.bare_name text
prints (g.quoted_name {text = text}) = p.quoted_name text
prints (g.named_name {n = n} q) = p.named_name n (prints q)
prints (g.word_part {text = text}) = λ h. p.word_part text
prints (g.quoted_part {text = text}) = λ h. p.quoted_part text
prints (g.paren_part {as' = as'} q) = λ h. p.paren_part as' (prints q h)
prints (g.back_part {c = c} q) = λ h. p.back_part c (prints q h)
prints (g.var_part {n = n} q k) = λ h. p.var_part n (prints q)
prints (g.sub_part {n = n} {as' = as'} q r) = λ h. p.sub_part n as' (prints q) (prints r (or_second (has_here n) (have_here as') h))
prints (g.count_part {n = n} q) = λ h. p.count_part n (prints q)
prints (g.flat_part {n = n} q) = λ h. p.flat_part n (prints q)
prints (g.joined {a = a} {as' = as'} q r) = λ h. let w = here_concat a as' h in concat_prints a as' (prints q w.0) (prints r w.1)
prints (g.no_caret e) = λ h. tt
prints (g.caret {a = a} {as' = as'} e q r) = λ h. (prints q (or_first (has_here a) (have_here as') h), prints r (or_second (has_here a) (have_here as') h))
prints (g.no_member) = λ h. tt
prints (g.blank_member q) = prints q
prints (g.member {a = a} {as' = as'} q r) = λ h. (prints q (or_first (has_here a) (have_here as') h), prints r (or_second (has_here a) (have_here as') h))
prints (g.no_word e) = λ h. tt
prints (g.word {a = a} {as' = as'} q r) = λ h. (prints q (or_first (has_here a) (have_here as') h), prints r (or_second (has_here a) (have_here as') h))
prints (g.open_redir {mode = mode} {slot = slot} {a = a} q) = λ h. p.open_redir mode slot a (prints q h)
prints (g.copy_redir {to = to} {from = from}) = λ h. p.copy_redir to from
prints (g.here_redir) = λ h. absurd cc
prints (g.no_redir e) = λ h. tt
prints (g.redir_more {r = r} {rs = rs} q s) = λ h. (prints q (or_first (has_here r) (have_here rs) h), prints s (or_second (has_here r) (have_here rs) h))
prints (g.simple_end e k) = λ h j. (tt, tt)
prints (g.simple_word {a = a} {x = x} q r) = λ h j.
    let w = prints r (or_second (has_here a) (have_here x.0) h) j in
    ((prints q (or_first (has_here a) (have_here x.0) h), w.0), w.1)
prints (g.simple_redir {r = r} {x = x} q s) = λ h j.
    let w = prints s h (or_second (has_here r) (have_here x.1) j) in
    (w.0, (prints q (or_first (has_here r) (have_here x.1) j), w.1))
prints (g.braced {is = is} q) = λ h. brace_print is (prints q h)
prints (g.parenthesised {is = is} q) = λ h. paren_print is (prints q h)
prints (g.simple_stage {ts = ts} {a = a} {x = x} first q v s) = λ begins starts h.
    let w = here_redirect x.1 (t.Simple (more a x.0)) h in
    let one = prints q (or_first (has_here a) (have_here x.0) w.1) in
    let others = prints s (or_second (has_here a) (have_here x.0) w.1) w.0 in
    stage_prints begins ts (t.Simple (more a x.0)) x.1 (stands begins a (λ e. arg_case q (starts e)))
    (simple_firm a x.0 one others.0 (arg_first q first) (arg_calm q)) others.1
prints (g.brace_stage {ts = ts} {c = c} {rs = rs} q s) = λ begins starts h.
    let w = here_redirect rs (t.Brace c) h in
    stage_prints begins ts (t.Brace c) rs refl (brace_firm c (prints q w.1)) (prints s w.0)
prints (g.switch_stage {text = text} {ts = ts} {a = a} {bs = bs} {rs = rs} k q e s r) = λ begins starts h.
    let w = here_redirect rs (t.Switch a bs) h in
    let cases = prints s (or_second (has_here a) (have_here bs) w.1) in
    stage_prints begins (Word text ∷ ts) (t.Switch a bs) rs refl (switch_firm a bs (prints q (or_first (has_here a) (have_here bs) w.1)) cases.phrase) (prints r w.0)
prints (g.match_stage {text = text} {ts = ts} {a = a} {as' = as'} k q s) = λ begins starts h.
    match_prints begins (Word text ∷ ts) a as' (prints q (or_first (has_here a) (have_here as') h)) (prints s (or_second (has_here a) (have_here as') h))
prints (g.define_stage {text = text} {ts = ts} {a = a} {as' = as'} {c = c} k q s r) = λ begins starts h.
    let names = or_first (has_here a || have_here as') (has_here c) h in
    define_prints begins (Word text ∷ ts) a as' c (prints q (or_first (has_here a) (have_here as') names)) (prints s (or_second (has_here a) (have_here as') names))
    (prints r (or_second (has_here a || have_here as') (has_here c) h))
prints (g.undefine_stage {text = text} {ts = ts} {a = a} {as' = as'} k q s e) = λ begins starts h.
    undefine_prints begins (Word text ∷ ts) a as' (prints q (or_first (has_here a) (have_here as') h)) (prints s (or_second (has_here a) (have_here as') h))
prints (g.piped {c = c} {ss = ss} q r) = λ begins starts h.
    let w = here_pipeline c ss h in pipe_prints begins c ss (prints q begins starts w.0) (prints r w.1)
prints (g.no_bar {rest = rest} e) = λ h. no_bars rest
prints (g.bar_stage {slot = slot} {ts = ts} {c = c} {ss = ss} q r) = λ h.
    more_bars slot c ss (prints q false (calm (past_newlines ts)) (or_first (has_here c) (have_here ss) h)) (prints r (or_second (has_here c) (have_here ss) h))
prints (g.bar_leading {slot = slot} {ts = ts} {c = c} q) = λ h. leading_bar slot c (prints q false (calm (past_newlines ts)) (or_first (has_here c) false h))
prints (g.bar_assigned {slot = slot} {ts = ts} {c = c} q) = λ h. assigned_bar slot c (prints q false (calm (past_newlines ts)) (or_first (has_here c) false h))
prints (g.not_leading {after_if = after_if} {text = text} {ts = ts} k q) = λ begins starts h.
    not_prints after_if begins (Word text ∷ ts) (prints q false (calm (past_caret ts)) h)
prints (g.subshell_leading {after_if = after_if} {text = text} {ts = ts} k q) = λ begins starts h.
    subshell_prints after_if begins (Word text ∷ ts) (prints q false (calm (past_caret ts)) h)
prints (g.redir_leading {after_if = after_if} {r = r} {rs = rs} {c = c} q s o) = λ begins starts h.
    let all = or_first (has_here r || have_here rs) (has_here c) h in
    redir_prints after_if begins r rs c (redir_begins q) (redirs_stop s)
    (prints q (or_first (has_here r) (have_here rs) all), prints s (or_second (has_here r) (have_here rs) all))
    (prints o (or_second (has_here r || have_here rs) (has_here c) h))
prints (g.if_leading {after_if = after_if} {text = text} {ts = ts} {c = c} {d = d} k q r) = λ begins starts h.
    if_prints after_if begins (Word text ∷ ts) c d (body_end r) (prints q (or_first (has_here c) (has_here d) h)) (prints r (or_second (has_here c) (has_here d) h))
prints (g.while_leading {after_if = after_if} {text = text} {ts = ts} {c = c} {d = d} k q r) = λ begins starts h.
    while_prints after_if begins (Word text ∷ ts) c d (body_end r) (prints q (or_first (has_here c) (has_here d) h)) (prints r (or_second (has_here c) (has_here d) h))
prints (g.if_not_leading {text = text} {ts = ts} {d = d} k e j r) = λ begins starts h.
    if_not_prints begins (Word text ∷ ts) d (body_end r) (prints r h)
prints (g.for_all_leading {after_if = after_if} {text = text} {ts = ts} {a = a} {d = d} k e q j r) = λ begins starts h.
    for_all_prints after_if begins (Word text ∷ ts) a d (body_end r) (prints q (or_first (has_here a) (has_here d) h)) (prints r (or_second (has_here a) (has_here d) h))
prints (g.for_leading {after_if = after_if} {text = text} {ts = ts} {a = a} {as' = as'} {d = d} k e q j i s r) = λ begins starts h.
    let others = or_second (has_here a) (have_here as' || has_here d) h in
    for_prints after_if begins (Word text ∷ ts) a as' d (body_end r) (prints q (or_first (has_here a) (have_here as' || has_here d) h))
    (prints s (or_first (have_here as') (has_here d) others)) (prints r (or_second (have_here as') (has_here d) others))
prints (g.assignment {ts = ts} {a = a} {v = v} {x = x} first q r s) = λ begins starts h.
    let pairs = or_first ((has_here a || has_here v) || have_here x.0) (has_here x.1) h in
    let pair = or_first (has_here a || has_here v) (have_here x.0) pairs in
    let one = prints q (or_first (has_here a) (has_here v) pair) in
    assign_prints begins ts a v x (arg_first q first) (opens_at begins (λ e. arg_calm q (arg_case q (starts e))) one.opens) one
    (prints r (or_second (has_here a) (has_here v) pair))
    (prints s (or_second (has_here a || has_here v) (have_here x.0) pairs) (or_second ((has_here a || has_here v) || have_here x.0) (has_here x.1) h))
prints (g.another_value {a = a} {v = v} {x = x} first q r s) = λ h j.
    let pair = or_first (has_here a || has_here v) (have_here x.0) h in
    more_values a v x (arg_first q first) (prints q (or_first (has_here a) (has_here v) pair)) (prints r (or_second (has_here a) (has_here v) pair))
    (prints s (or_second (has_here a || has_here v) (have_here x.0) h) j)
prints (g.values_alone {rest = rest} e) = λ h j. no_values rest
prints (g.values_leading {ts = ts} {c = c} q) = λ h j. leading_values c (prints q false (calm ts) j)
prints (g.values_pipe {ts = ts} {c = c} q) = λ h j. pipe_values c (prints q false (calm ts) j)
prints (g.leading_operand {after_if = after_if} q) = λ begins starts h. leading_prints after_if begins (prints q begins starts h)
prints (g.assigned_operand {after_if = after_if} q) = λ begins starts h. assigned_prints after_if begins (prints q begins starts h)
prints (g.pipe_operand {after_if = after_if} q) = λ begins starts h. piped_prints after_if begins (prints q begins starts h)
prints (g.no_operand {rest = rest} e) = λ h. no_operand_prints rest rest
prints (g.one_operand {ts = ts} q) = λ h. operand_prints (prints q false (calm ts) h)
prints (g.linked {after_if = after_if} {c = c} {ls = ls} q r) = λ begins starts h.
    let w = here_and_or c ls h in command_prints after_if begins c ls (prints q begins starts w.0) (prints r w.1)
prints (g.no_link {rest = rest} e) = λ h. no_links rest
prints (g.and_link {ts = ts} {c = c} {ls = ls} q r) = λ h.
    and_links ts (past_newlines ts) c ls (prints q false (calm (past_newlines ts)) (or_first (has_here c) (have_here ls) h)) (prints r (or_second (has_here c) (have_here ls) h))
prints (g.or_link {ts = ts} {c = c} {ls = ls} q r) = λ h.
    or_links ts (past_newlines ts) c ls (prints q false (calm (past_newlines ts)) (or_first (has_here c) (have_here ls) h)) (prints r (or_second (has_here c) (have_here ls) h))
prints (g.no_body e k) = λ h. no_body_prints
prints (g.one_body {ts = ts} q) = λ h. one_body_prints (prints q false (calm (past_newlines ts)) h)
prints (g.no_item {in_switch = in_switch} {after_if = after_if} e) = λ h. no_items in_switch after_if
prints (g.semicolon_item q) = prints q
prints (g.newline_item q) = prints q
prints (g.one_item {in_switch = in_switch} {after_if = after_if} {ts = ts} {c = c} {x = x} e q r) = λ h.
    more_items in_switch after_if x.0 c x.1
    (prints q in_switch (λ k. subst (λ b. ends b ts ≡ false) k e) (or_first (has_here c) (have_here x.1) h)) (prints r (or_second (has_here c) (have_here x.1) h))
prints (g.after_last {in_switch = in_switch} {after_if = after_if} e) = λ h. no_items in_switch after_if
prints (g.after_semicolon q) = prints q
prints (g.after_newline q) = prints q
prints (g.after_background q) = prints q
prints (g.no_branch) = λ h. no_cases
prints (g.semicolon_branch q) = prints q
prints (g.newline_branch q) = prints q
prints (g.one_branch {as' = as'} {is = is} {bs = bs} k q e r s) = λ h.
    let one = or_first (have_here as' || have_here is) (have_here bs) h in
    more_cases as' is bs (prints q (or_first (have_here as') (have_here is) one)) (prints r (or_second (have_here as') (have_here is) one))
    (prints s (or_second (have_here as' || have_here is) (have_here bs) h))

-- a tree of a script is that of its print
pub script_prints : (ts : List Lexeme) (c : Node t.cmd) → HaveTree ts c → has_here c ≡ false → HaveTree (cmd_lexemes c false) c
script_prints ts c s h =
    let items = s.0 in
    let none_here : have_here items ≡ false = subst (λ z. has_here z ≡ false) s.2 h in
    let phrase : Phrase (g.items false false) (cmd_lexemes (t.Seq items) false) items [] =
    subst (λ z. Phrase (g.items false false) z items []) (append-nil (cmd_lexemes (t.Seq items) false)) (list_print items [] at_end (prints s.1 none_here)) in
    (items, subst (λ z. Phrase (g.items false false) (cmd_lexemes z false) items []) (sym s.2) phrase, s.2)
