-- A phrase takes tokens: what is after it is no longer than the whole, and mostly shorter.
use Rattle.std.proofs.Common.{◌≡◌, ℕ, ◌+◌, ◌<◌, ◌≤◌, Bool, true, false, List, ◌∷◌, length, Some, ap, arith}
use Rattle.std.proofs.lemmas.Option.{same_Some}
use Rattle.rc_model.specs.Syntax.Tokens.{Lexeme, Newline, FreeCaret, Caret}
use Rattle.rc_model.specs.Syntax.Grammar.{Phrase, Level, Out, past_newlines, past_blanks, past_caret, after_caret}
use Rattle.rc_model.specs.Syntax.Grammar as g

pub past_newlines-shorter : (ts : List Lexeme) → length (past_newlines ts) ≤ length ts
past_newlines-shorter (Newline ∷ ts) = let h = past_newlines-shorter ts in omega arith
past_newlines-shorter ts = omega arith

pub past_blanks-shorter : (inside : Bool) (ts : List Lexeme) → length (past_blanks inside ts) ≤ length ts
past_blanks-shorter true ts = past_newlines-shorter ts
past_blanks-shorter false ts = omega arith

pub past_caret-shorter : (ts : List Lexeme) → length (past_caret ts) ≤ length ts
past_caret-shorter (FreeCaret ∷ ts) = omega arith
past_caret-shorter ts = omega arith

pub after_caret-shorter : (ts next : List Lexeme) → after_caret ts ≡ Some next → length next < length ts
after_caret-shorter (Caret ∷ ts) next h = let e = ap length (same_Some ts next h) in omega arith
after_caret-shorter (FreeCaret ∷ ts) next h = let e = ap length (same_Some ts next h) in omega arith
after_caret-shorter ts next h = absurd cc

caret-shorter : (inside : Bool) (ts next : List Lexeme) → after_caret (past_blanks inside ts) ≡ Some next → length (past_blanks inside next) < length ts
caret-shorter inside ts next h =
    let a = after_caret-shorter (past_blanks inside ts) next h in
    let b = past_blanks-shorter inside ts in
    let d = past_blanks-shorter inside next in
    omega arith

newlines_then : (ts : List Lexeme) (x : Lexeme) (next : List Lexeme) → past_newlines ts ≡ x ∷ next → length next < length ts
newlines_then ts x next h = let a = past_newlines-shorter ts in let e = ap length h in omega arith

caret_then : (ts : List Lexeme) (x : Lexeme) (next : List Lexeme) → past_caret ts ≡ x ∷ next → length next < length ts
caret_then ts x next h = let a = past_caret-shorter ts in let e = ap length h in omega arith

-- how many tokens a phrase takes at least
abbrev pub least : Level → ℕ
least g.name = 1
least (g.part inside) = 1
least (g.arg inside) = 1
least (g.parts inside) = 0
least g.members = 1
least g.words = 0
least g.redir = 1
least g.redirs = 0
least g.simple = 0
least g.brace = 1
least g.paren = 1
least g.stage = 1
least g.bars = 0
least g.pipe = 1
least (g.leading after_if) = 1
least g.assigned = 1
least g.values = 0
least (g.operand after_if) = 1
least g.optional = 0
least g.links = 0
least (g.command after_if) = 1
least g.body = 0
least (g.items in_switch after_if) = 0
least (g.after in_switch after_if) = 0
least g.branches = 0

pub Phrase-shorter : {l : Level} {ts : List Lexeme} {x : Out l} {rest : List Lexeme} → Phrase l ts x rest → least l + length rest ≤ length ts
Phrase-shorter (g.bare_name) = omega arith
Phrase-shorter (g.quoted_name) = omega arith
Phrase-shorter (g.named_name p) = let a = Phrase-shorter p in omega arith
Phrase-shorter (g.word_part) = omega arith
Phrase-shorter (g.quoted_part) = omega arith
Phrase-shorter (g.paren_part p) = let a = Phrase-shorter p in omega arith
Phrase-shorter (g.back_part {inside = inside} {ts = ts} p) = let a = Phrase-shorter p in let b = past_blanks-shorter inside ts in omega arith
Phrase-shorter (g.var_part p h) = let a = Phrase-shorter p in omega arith
Phrase-shorter (g.sub_part p q) = let a = Phrase-shorter p in let b = Phrase-shorter q in omega arith
Phrase-shorter (g.count_part p) = let a = Phrase-shorter p in omega arith
Phrase-shorter (g.flat_part p) = let a = Phrase-shorter p in omega arith
Phrase-shorter (g.joined p q) = let a = Phrase-shorter p in let b = Phrase-shorter q in omega arith
Phrase-shorter (g.no_caret h) = omega arith
Phrase-shorter (g.caret {inside = inside} {ts = ts} {next = next} h p q) = let d = caret-shorter inside ts next h in let a = Phrase-shorter p in let b = Phrase-shorter q in omega arith
Phrase-shorter (g.no_member) = omega arith
Phrase-shorter (g.blank_member p) = let a = Phrase-shorter p in omega arith
Phrase-shorter (g.member p q) = let a = Phrase-shorter p in let b = Phrase-shorter q in omega arith
Phrase-shorter (g.no_word h) = omega arith
Phrase-shorter (g.word p q) = let a = Phrase-shorter p in let b = Phrase-shorter q in omega arith
Phrase-shorter (g.open_redir p) = let a = Phrase-shorter p in omega arith
Phrase-shorter (g.copy_redir) = omega arith
Phrase-shorter (g.here_redir) = omega arith
Phrase-shorter (g.no_redir h) = omega arith
Phrase-shorter (g.redir_more p q) = let a = Phrase-shorter p in let b = Phrase-shorter q in omega arith
Phrase-shorter (g.simple_end h k) = omega arith
Phrase-shorter (g.simple_word p q) = let a = Phrase-shorter p in let b = Phrase-shorter q in omega arith
Phrase-shorter (g.simple_redir p q) = let a = Phrase-shorter p in let b = Phrase-shorter q in omega arith
Phrase-shorter (g.braced p) = let a = Phrase-shorter p in omega arith
Phrase-shorter (g.parenthesised p) = let a = Phrase-shorter p in omega arith
Phrase-shorter (g.simple_stage h p k q) = let a = Phrase-shorter p in let b = Phrase-shorter q in omega arith
Phrase-shorter (g.brace_stage p q) = let a = Phrase-shorter p in let b = Phrase-shorter q in omega arith
Phrase-shorter (g.switch_stage {ts = ts} {mid = mid} {inner = inner} h p k q r) =
    let z = past_caret-shorter ts in let y = newlines_then mid _ inner k in
    let a = Phrase-shorter p in let b = Phrase-shorter q in let d = Phrase-shorter r in omega arith
Phrase-shorter (g.match_stage {ts = ts} h p q) = let z = past_caret-shorter ts in let a = Phrase-shorter p in let b = Phrase-shorter q in omega arith
Phrase-shorter (g.define_stage {ts = ts} h p q r) = let z = past_caret-shorter ts in let a = Phrase-shorter p in let b = Phrase-shorter q in let d = Phrase-shorter r in omega arith
Phrase-shorter (g.undefine_stage {ts = ts} h p q k) = let z = past_caret-shorter ts in let a = Phrase-shorter p in let b = Phrase-shorter q in omega arith
Phrase-shorter (g.piped p q) = let a = Phrase-shorter p in let b = Phrase-shorter q in omega arith
Phrase-shorter (g.no_bar h) = omega arith
Phrase-shorter (g.bar_stage {ts = ts} p q) = let z = past_newlines-shorter ts in let a = Phrase-shorter p in let b = Phrase-shorter q in omega arith
Phrase-shorter (g.bar_leading {ts = ts} p) = let z = past_newlines-shorter ts in let a = Phrase-shorter p in omega arith
Phrase-shorter (g.bar_assigned {ts = ts} p) = let z = past_newlines-shorter ts in let a = Phrase-shorter p in omega arith
Phrase-shorter (g.not_leading {ts = ts} h p) = let z = past_caret-shorter ts in let a = Phrase-shorter p in omega arith
Phrase-shorter (g.subshell_leading {ts = ts} h p) = let z = past_caret-shorter ts in let a = Phrase-shorter p in omega arith
Phrase-shorter (g.redir_leading p q r) = let a = Phrase-shorter p in let b = Phrase-shorter q in let d = Phrase-shorter r in omega arith
Phrase-shorter (g.if_leading {ts = ts} h p q) = let z = past_caret-shorter ts in let a = Phrase-shorter p in let b = Phrase-shorter q in omega arith
Phrase-shorter (g.while_leading {ts = ts} h p q) = let z = past_caret-shorter ts in let a = Phrase-shorter p in let b = Phrase-shorter q in omega arith
Phrase-shorter (g.if_not_leading {ts = ts} {next = next} h k m p) =
    let z = caret_then ts _ next k in let y = past_caret-shorter next in let a = Phrase-shorter p in omega arith
Phrase-shorter (g.for_all_leading {ts = ts} {head = head} {mid = mid} {next = next} h k p m q) =
    let z = caret_then ts _ head k in let y = past_newlines-shorter head in let x = newlines_then mid _ next m in
    let a = Phrase-shorter p in let b = Phrase-shorter q in omega arith
Phrase-shorter (g.for_leading {ts = ts} {head = head} {mid = mid} {list = list} h k p m n q r) =
    let z = caret_then ts _ head k in let y = past_newlines-shorter head in let x = newlines_then mid _ list m in let w = past_caret-shorter list in
    let a = Phrase-shorter p in let b = Phrase-shorter q in let d = Phrase-shorter r in omega arith
Phrase-shorter (g.assignment h p q r) = let a = Phrase-shorter p in let b = Phrase-shorter q in let d = Phrase-shorter r in omega arith
Phrase-shorter (g.another_value h p q r) = let a = Phrase-shorter p in let b = Phrase-shorter q in let d = Phrase-shorter r in omega arith
Phrase-shorter (g.values_alone h) = omega arith
Phrase-shorter (g.values_leading p) = let a = Phrase-shorter p in omega arith
Phrase-shorter (g.values_pipe p) = let a = Phrase-shorter p in omega arith
Phrase-shorter (g.leading_operand p) = Phrase-shorter p
Phrase-shorter (g.assigned_operand p) = Phrase-shorter p
Phrase-shorter (g.pipe_operand p) = Phrase-shorter p
Phrase-shorter (g.no_operand h) = omega arith
Phrase-shorter (g.one_operand p) = let a = Phrase-shorter p in omega arith
Phrase-shorter (g.linked p q) = let a = Phrase-shorter p in let b = Phrase-shorter q in omega arith
Phrase-shorter (g.no_link h) = omega arith
Phrase-shorter (g.and_link {ts = ts} p q) = let z = past_newlines-shorter ts in let a = Phrase-shorter p in let b = Phrase-shorter q in omega arith
Phrase-shorter (g.or_link {ts = ts} p q) = let z = past_newlines-shorter ts in let a = Phrase-shorter p in let b = Phrase-shorter q in omega arith
Phrase-shorter (g.no_body {ts = ts} h k) = let z = past_newlines-shorter ts in omega arith
Phrase-shorter (g.one_body {ts = ts} p) = let z = past_newlines-shorter ts in let a = Phrase-shorter p in omega arith
Phrase-shorter (g.no_item h) = omega arith
Phrase-shorter (g.semicolon_item p) = let a = Phrase-shorter p in omega arith
Phrase-shorter (g.newline_item p) = let a = Phrase-shorter p in omega arith
Phrase-shorter (g.one_item h p q) = let a = Phrase-shorter p in let b = Phrase-shorter q in omega arith
Phrase-shorter (g.after_last h) = omega arith
Phrase-shorter (g.after_semicolon p) = let a = Phrase-shorter p in omega arith
Phrase-shorter (g.after_newline p) = let a = Phrase-shorter p in omega arith
Phrase-shorter (g.after_background p) = let a = Phrase-shorter p in omega arith
Phrase-shorter (g.no_branch) = omega arith
Phrase-shorter (g.semicolon_branch p) = let a = Phrase-shorter p in omega arith
Phrase-shorter (g.newline_branch p) = let a = Phrase-shorter p in omega arith
Phrase-shorter (g.one_branch {ts = ts} h p k q r) = let z = past_caret-shorter ts in let a = Phrase-shorter p in let b = Phrase-shorter q in let d = Phrase-shorter r in omega arith
