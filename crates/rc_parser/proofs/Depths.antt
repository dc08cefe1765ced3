-- A tree that was read from few tokens has few levels.
use Rattle.std.proofs.Common.{◌≡◌, ℕ, suc, ◌+◌, ◌<◌, ◌≤◌, max, Bool, List, ◌∷◌, length, Some, Ok, ap, ◌-◌, nat_le, true}
use Rattle.std.proofs.Common.{arith}
use Rattle.std.proofs.lemmas.Bool.{le-leb}
use Rattle.std.proofs.lemmas.Grind.{common_steps}
use Rattle.rc_model.specs.Syntax.Tokens.{Lexeme}
use Rattle.rc_model.specs.Syntax.Tree.{Sort, Node, Many, none, more}
use Rattle.rc_model.specs.Syntax.Tree as t
use Rattle.rc_model.specs.Syntax.WellFormed.{depth, depths}
use Rattle.rc_model.specs.Syntax.Grammar.{Phrase, Level, Out, concat_of, redirect, pipeline, stages_of, last_of, and_or}
use Rattle.rc_model.specs.Syntax.Grammar.{past_newlines, past_blanks, past_caret}
use Rattle.rc_model.specs.Syntax.Grammar as g
use Rattle.rc_model.specs.Mirrors.Descent as d
use Rattle.law_syntax.proofs.Shorter.{Phrase-shorter, past_newlines-shorter, past_blanks-shorter, past_caret-shorter}
use Rattle.law_syntax.proofs.Shorter.{after_caret-shorter}
use Rattle.law_syntax.proofs.Soundness.{read_sound}

-- how many levels these nodes have together with the node that they make if there are any
abbrev above : {s : Sort} → Many s → ℕ
above none = 0
above (more n ns) = suc (depths (more n ns))

depths_above : {s : Sort} (ns : Many s) → depths ns ≤ above ns
depths_above none = omega arith
depths_above (more n ns) = omega arith

-- how many levels they have, at least one if there are any
abbrev some : {s : Sort} → Many s → ℕ
some none = 0
some (more n ns) = max 1 (depths (more n ns))

depths_some : {s : Sort} (ns : Many s) → depths ns ≤ some ns
depths_some none = omega arith
depths_some (more n ns) = omega arith

-- the levels of what is made of several nodes
concat_depth : (a : Node t.arg) (as' : Many t.arg) → depth (concat_of a as') ≤ depth a + above as'
concat_depth a none = omega arith
concat_depth a (more b as') = omega arith

redirect_depth : (rs : Many t.redir) (c : Node t.cmd) → depth (redirect rs c) ≤ depth c + above rs
redirect_depth none c = omega arith
redirect_depth (more r rs) c = omega arith

stages_depth : (c : Node t.cmd) (ss : Many t.stage) →
    max (depths (stages_of c ss)) (depth (last_of c ss)) ≤ max (depth c) (depths ss)
stages_depth c none = omega arith
stages_depth c (more (t.Stage second slot) ss) = let a = stages_depth second ss in omega arith

pipeline_depth : (c : Node t.cmd) (ss : Many t.stage) (n m k : ℕ) → m ≤ n → depth c + m ≤ suc n → some ss + k ≤ m →
    depth (pipeline c ss) + k ≤ suc n
pipeline_depth c none n m k shorter one rest = omega arith
pipeline_depth c (more s ss) n m k shorter one rest = let a = stages_depth c (more s ss) in omega arith

and_or_depth : (c : Node t.cmd) (ls : Many t.link) (n m k : ℕ) → m ≤ n → depth c + m ≤ suc n → some ls + k ≤ m →
    depth (and_or c ls) + k ≤ suc n
and_or_depth c none n m k shorter one rest = omega arith
and_or_depth c (more l ls) n m k shorter one rest = omega arith

-- how many levels has what was read
abbrev levels : (l : Level) → Out l → ℕ
levels g.name n = depth n
levels (g.part inside) n = depth n
levels (g.arg inside) n = depth n
levels (g.parts inside) ns = above ns
levels g.members ns = depths ns
levels g.words ns = depths ns
levels g.redir n = suc (depth n)
levels g.redirs ns = above ns
levels g.simple x = depths x.0 + above x.1
levels g.brace n = depth n
levels g.paren n = depth n
levels g.stage n = depth n
levels g.bars ns = some ns
levels g.pipe n = depth n
levels (g.leading after_if) n = depth n
levels g.assigned n = depth n
levels g.values x = max (depths x.0) (depth x.1)
levels (g.operand after_if) n = depth n
levels g.optional n = depth n
levels g.links ns = some ns
levels (g.command after_if) n = depth n
levels g.body n = depth n
levels (g.items in_switch after_if) ns = depths ns
levels (g.after in_switch after_if) x = depths x.1
levels g.branches ns = depths ns

-- how many more levels than tokens there may be
abbrev spare : Level → ℕ
spare g.stage = 1
spare g.pipe = 1
spare (g.leading after_if) = 1
spare g.assigned = 1
spare g.values = 1
spare (g.operand after_if) = 1
spare g.optional = 1
spare (g.command after_if) = 1
spare g.body = 1
spare (g.items in_switch after_if) = 1
spare (g.after in_switch after_if) = 1
spare g.branches = 1
spare _ = 0

-- what is skipped takes tokens
caret_then : (inside : Bool) (ts next : List Lexeme) → g.after_caret (past_blanks inside ts) ≡ Some next →
    length (past_blanks inside next) < length ts
caret_then inside ts next h =
    let a = after_caret-shorter (past_blanks inside ts) next h in
    let b = past_blanks-shorter inside ts in
    let c = past_blanks-shorter inside next in
    omega arith

newlines_then : (ts : List Lexeme) (x : Lexeme) (next : List Lexeme) → past_newlines ts ≡ x ∷ next →
    length next < length ts
newlines_then ts x next h = let a = past_newlines-shorter ts in let e = ap length h in omega arith

keyword_then : (ts : List Lexeme) (x : Lexeme) (next : List Lexeme) → past_caret ts ≡ x ∷ next → length next < length ts
keyword_then ts x next h = let a = past_caret-shorter ts in let e = ap length h in omega arith

-- what was read has few more levels than tokens at most
few_levels : {l : Level} {ts : List Lexeme} {x : Out l} {rest : List Lexeme} → Phrase l ts x rest →
    levels l x + length rest ≤ spare l + length ts
few_levels g.bare_name = omega arith
few_levels g.quoted_name = omega arith
few_levels (g.named_name p) = let a = few_levels p in omega arith
few_levels g.word_part = omega arith
few_levels g.quoted_part = omega arith
few_levels (g.paren_part p) = let a = few_levels p in omega arith
few_levels (g.back_part {inside = inside} {ts = ts} p) =
    let a = few_levels p in let b = past_blanks-shorter inside ts in omega arith
few_levels (g.var_part p h) = let a = few_levels p in omega arith
few_levels (g.sub_part p q) = let a = few_levels p in let b = few_levels q in omega arith
few_levels (g.count_part p) = let a = few_levels p in omega arith
few_levels (g.flat_part p) = let a = few_levels p in omega arith
few_levels (g.joined {a = n} {as' = ns} p q) =
    let a = few_levels p in let b = few_levels q in let c = concat_depth n ns in omega arith
few_levels (g.no_caret h) = omega arith
few_levels (g.caret {inside = inside} {ts = ts} {next = next} {as' = ns} h p q) =
    let z = caret_then inside ts next h in let y = depths_above ns in
    let a = few_levels p in let b = few_levels q in omega arith
few_levels g.no_member = omega arith
few_levels (g.blank_member p) = let a = few_levels p in omega arith
few_levels (g.member p q) = let a = few_levels p in let b = few_levels q in omega arith
few_levels (g.no_word h) = omega arith
few_levels (g.word p q) = let a = few_levels p in let b = few_levels q in omega arith
few_levels (g.open_redir p) = let a = few_levels p in omega arith
few_levels g.copy_redir = omega arith
few_levels g.here_redir = omega arith
few_levels (g.no_redir h) = omega arith
few_levels (g.redir_more {rs = rs} p q) =
    let z = depths_above rs in let a = few_levels p in let b = few_levels q in omega arith
few_levels (g.simple_end h k) = omega arith
few_levels (g.simple_word p q) = let a = few_levels p in let b = few_levels q in omega arith
few_levels (g.simple_redir {x = x} p q) =
    let z = depths_above x.1 in let a = few_levels p in let b = few_levels q in omega arith
few_levels (g.braced p) = let a = few_levels p in omega arith
few_levels (g.parenthesised p) = let a = few_levels p in omega arith
few_levels (g.simple_stage {a = n} {x = x} h p k q) =
    let z = redirect_depth x.1 (t.Simple (more n x.0)) in
    let a = few_levels p in let b = few_levels q in omega arith
few_levels (g.brace_stage {c = c} {rs = rs} p q) =
    let z = redirect_depth rs (t.Brace c) in let a = few_levels p in let b = few_levels q in omega arith
few_levels (g.switch_stage {ts = ts} {mid = mid} {inner = inner} {a = n} {bs = bs} {rs = rs} h p k q r) =
    let z = past_caret-shorter ts in let y = newlines_then mid _ inner k in let x = redirect_depth rs (t.Switch n bs) in
    let a = few_levels p in let b = few_levels q in let c = few_levels r in omega arith
few_levels (g.match_stage {ts = ts} h p q) =
    let z = past_caret-shorter ts in let a = few_levels p in let b = few_levels q in omega arith
few_levels (g.define_stage {ts = ts} h p q r) =
    let z = past_caret-shorter ts in let a = few_levels p in let b = few_levels q in let c = few_levels r in omega arith
few_levels (g.undefine_stage {ts = ts} h p q k) =
    let z = past_caret-shorter ts in let a = few_levels p in let b = few_levels q in omega arith
few_levels (g.piped {ts = ts} {mid = mid} {rest = rest} {c = c} {ss = ss} p q) =
    let z = Phrase-shorter p in let a = few_levels p in let b = few_levels q in
    let y = pipeline_depth c ss (length ts) (length mid) (length rest) (omega arith) (omega arith) (omega arith) in
    omega arith
few_levels (g.no_bar h) = omega arith
few_levels (g.bar_stage {ts = ts} {ss = ss} p q) =
    let z = past_newlines-shorter ts in let y = depths_some ss in let x = Phrase-shorter p in let a = few_levels p in
    let b = few_levels q in omega arith
few_levels (g.bar_leading {ts = ts} p) =
    let z = past_newlines-shorter ts in let y = Phrase-shorter p in let a = few_levels p in omega arith
few_levels (g.bar_assigned {ts = ts} p) =
    let z = past_newlines-shorter ts in let y = Phrase-shorter p in let a = few_levels p in omega arith
few_levels (g.not_leading {ts = ts} h p) = let z = past_caret-shorter ts in let a = few_levels p in omega arith
few_levels (g.subshell_leading {ts = ts} h p) = let z = past_caret-shorter ts in let a = few_levels p in omega arith
few_levels (g.redir_leading {rs = rs} p q r) =
    let z = depths_above rs in let a = few_levels p in let b = few_levels q in let c = few_levels r in omega arith
few_levels (g.if_leading {ts = ts} h p q) =
    let z = past_caret-shorter ts in let a = few_levels p in let b = few_levels q in omega arith
few_levels (g.while_leading {ts = ts} h p q) =
    let z = past_caret-shorter ts in let a = few_levels p in let b = few_levels q in omega arith
few_levels (g.if_not_leading {ts = ts} {next = next} h k m p) =
    let z = keyword_then ts _ next k in let y = past_caret-shorter next in let a = few_levels p in omega arith
few_levels (g.for_all_leading {ts = ts} {head = head} {mid = mid} {next = next} h k p m q) =
    let z = keyword_then ts _ head k in let y = past_newlines-shorter head in let x = newlines_then mid _ next m in
    let a = few_levels p in let b = few_levels q in omega arith
few_levels (g.for_leading {ts = ts} {head = head} {mid = mid} {list = list} h k p m n q r) =
    let z = keyword_then ts _ head k in let y = past_newlines-shorter head in let x = newlines_then mid _ list m in
    let w = past_caret-shorter list in
    let a = few_levels p in let b = few_levels q in let c = few_levels r in omega arith
few_levels (g.assignment h p q r) = let a = few_levels p in let b = few_levels q in let c = few_levels r in omega arith
few_levels (g.another_value h p q r) =
    let a = few_levels p in let b = few_levels q in let c = few_levels r in omega arith
few_levels (g.values_alone h) = omega arith
few_levels (g.values_leading p) = let a = few_levels p in omega arith
few_levels (g.values_pipe p) = let a = few_levels p in omega arith
few_levels (g.leading_operand p) = few_levels p
few_levels (g.assigned_operand p) = few_levels p
few_levels (g.pipe_operand p) = few_levels p
few_levels (g.no_operand h) = omega arith
few_levels (g.one_operand p) = few_levels p
few_levels (g.linked {ts = ts} {mid = mid} {rest = rest} {c = c} {ls = ls} p q) =
    let z = Phrase-shorter p in let a = few_levels p in let b = few_levels q in
    let y = and_or_depth c ls (length ts) (length mid) (length rest) (omega arith) (omega arith) (omega arith) in
    omega arith
few_levels (g.no_link h) = omega arith
few_levels (g.and_link {ts = ts} {ls = ls} p q) =
    let z = past_newlines-shorter ts in let y = depths_some ls in let x = Phrase-shorter p in let a = few_levels p in
    let b = few_levels q in omega arith
few_levels (g.or_link {ts = ts} {ls = ls} p q) =
    let z = past_newlines-shorter ts in let y = depths_some ls in let x = Phrase-shorter p in let a = few_levels p in
    let b = few_levels q in omega arith
few_levels (g.no_body {ts = ts} h k) = let z = past_newlines-shorter ts in omega arith
few_levels (g.one_body {ts = ts} p) = let z = past_newlines-shorter ts in let a = few_levels p in omega arith
few_levels (g.no_item h) = omega arith
few_levels (g.semicolon_item p) = let a = few_levels p in omega arith
few_levels (g.newline_item p) = let a = few_levels p in omega arith
few_levels (g.one_item h p q) =
    let z = Phrase-shorter p in let y = Phrase-shorter q in let a = few_levels p in let b = few_levels q in omega arith
few_levels (g.after_last h) = omega arith
few_levels (g.after_semicolon p) = let a = few_levels p in omega arith
few_levels (g.after_newline p) = let a = few_levels p in omega arith
few_levels (g.after_background p) = let a = few_levels p in omega arith
few_levels g.no_branch = omega arith
few_levels (g.semicolon_branch p) = let a = few_levels p in omega arith
few_levels (g.newline_branch p) = let a = few_levels p in omega arith
few_levels (g.one_branch {ts = ts} h p k q r) =
    let z = past_caret-shorter ts in let y = Phrase-shorter q in let x = Phrase-shorter r in
    let a = few_levels p in let b = few_levels q in let c = few_levels r in omega arith

-- a command that was read has at most one level more than tokens
command_levels : (left : ℕ) (after_if : Bool) (ts : List Lexeme) (c : Node t.cmd) (rest : List Lexeme) →
    d.read left (d.a_command after_if) ts ≡ Ok (c, rest) →
    depth c ≤ suc (length ts - length rest)
command_levels left after_if ts c rest h =
    let s = read_sound left in let a = few_levels (s.command after_if ts (c, rest) h) in omega arith

-- and takes tokens
pub command_takes : (left : ℕ) (after_if : Bool) (ts : List Lexeme) (c : Node t.cmd) (rest : List Lexeme) →
    d.read left (d.a_command after_if) ts ≡ Ok (c, rest) →
    length rest ≤ length ts
command_takes left after_if ts c rest h =
    let s = read_sound left in let a = Phrase-shorter (s.command after_if ts (c, rest) h) in omega arith

-- so it has few levels if it took few tokens
pub few_tokens : (left : ℕ) (after_if : Bool) (ts : List Lexeme) (c : Node t.cmd) (rest : List Lexeme) →
    d.read left (d.a_command after_if) ts ≡ Ok (c, rest) →
    length ts - length rest < left → nat_le (depth c) left ≡ true
few_tokens left after_if ts c rest h k =
    let a = command_levels left after_if ts c rest h in le-leb (depth c) left (omega arith)

pub ruleset commands = (command_takes, few_tokens, common_steps)
