-- A list of lexemes has one tree at most.
use Rattle.std.proofs.Common.{◌≡◌, sym, ap, ◌∙◌, refl, List}
use Rattle.rc_model.specs.Syntax.Tokens.{Lexeme}
use Rattle.rc_model.specs.Syntax.Tree.{Node}
use Rattle.rc_model.specs.Syntax.Tree as t
use Rattle.rc_model.specs.Syntax.Grammar.{Phrase, Level, Out, HaveTree}
use Rattle.rc_model.specs.Syntax.Grammar as g
use Rattle.law_syntax.proofs.Same.{One, redir_word, brace_word}
use Rattle.law_syntax.proofs.Beginnings.{arg_begins, redir_begins, brace_begins}
use Rattle.law_syntax.proofs.Same.{paren_word, stage_leads, pipe_leads, assigned_leads, leading_leads}
use Rattle.law_syntax.proofs.Beginnings.{arg_starts, pipe_commands, leading_commands, operand_commands, command_commands}
use Rattle.law_syntax.proofs.UniqueArguments as a
use Rattle.law_syntax.proofs.UniqueCommands as c
use Rattle.law_syntax.proofs.UniqueOperands as o
use Rattle.law_syntax.proofs.UniqueLists as l
use Rattle.rc_model.specs.declared.syntax.Keyword.TheVariants.{Fn as FnWord, Match as MatchWord, Switch as SwitchWord}

-- each phrase is the only one of its level on its tokens
one : {l : Level} {ts : List Lexeme} {x : Out l} {rest : List Lexeme} → Phrase l ts x rest → One l ts x rest
one (g.bare_name {text = text} {rest = rest}) = record { same = a.bare_name text rest; apart = tt }
one (g.quoted_name {text = text} {rest = rest}) = record { same = a.quoted_name text rest; apart = tt }
one (g.named_name q) = record { same = a.named_name (one q); apart = tt }
one (g.word_part {text = text} {rest = rest}) = record { same = a.word_part text rest; apart = tt }
one (g.quoted_part {text = text} {rest = rest}) = record { same = a.quoted_part text rest; apart = tt }
one (g.paren_part q) = record { same = a.paren_part (one q); apart = tt }
one (g.back_part q) = record { same = a.back_part (one q); apart = tt }
one (g.var_part q h) = record { same = a.var_part (one q) h; apart = tt }
one (g.sub_part q r) = record { same = a.sub_part (one q) (one r); apart = tt }
one (g.count_part q) = record { same = a.count_part (one q); apart = tt }
one (g.flat_part q) = record { same = a.flat_part (one q); apart = tt }
one (g.joined q r) = record { same = a.joined (one q) (one r); apart = tt }
one (g.no_caret {inside = inside} {rest = rest} h) = record { same = a.no_caret inside rest h; apart = tt }
one (g.caret {inside = inside} {ts = ts} {next = next} h q r) = record { same = a.caret inside ts next h (one q) (one r); apart = tt }
one (g.no_member {rest = rest}) = record { same = a.no_member rest; apart = tt }
one (g.blank_member q) = record { same = a.blank_member (one q); apart = tt }
one (g.member q r) = record { same = a.member (arg_begins q) (one q) (one r); apart = tt }
one (g.no_word {rest = rest} h) = record { same = a.no_word rest h; apart = tt }
one (g.word q r) = record { same = a.word (arg_begins q) (one q) (one r); apart = tt }
one (g.open_redir {mode = mode} {slot = slot} q) = record { same = a.open_redir mode slot (one q); apart = tt }
one (g.copy_redir {to = to} {from = from} {rest = rest}) = record { same = a.copy_redir to from rest; apart = tt }
one (g.here_redir {quoted = quoted} {text = text} {rest = rest}) = record { same = a.here_redir quoted text rest; apart = tt }
one (g.no_redir {rest = rest} h) = record { same = a.no_redir rest h; apart = tt }
one (g.redir_more q r) = record { same = a.redir_more (redir_begins q) (one q) (one r); apart = tt }
one (g.simple_end {rest = rest} h k) = record { same = a.simple_end rest h k; apart = tt }
one (g.simple_word q r) = record { same = a.simple_word (arg_begins q) (one q) (one r); apart = tt }
one (g.simple_redir q r) = record { same = a.simple_redir (redir_begins q) (one q) (one r); apart = tt }
one (g.braced q) = record { same = c.braced (one q); apart = tt }
one (g.parenthesised q) = record { same = c.parenthesised (one q); apart = tt }
one (g.simple_stage {ts = ts} h q v r) = record { same = c.simple_stage ts h (one q) (one r); apart = c.simple_apart (one q) v }
one (g.brace_stage q r) = record { same = c.brace_stage (brace_begins q) (brace_word q) (one q) (one r); apart = c.brace_apart (brace_begins q) }
one (g.switch_stage {text = text} k q j r v) = record { same = c.switch_stage text k (one q) j (one r) (one v); apart = c.word_apart text SwitchWord k refl }
one (g.match_stage {text = text} k q r) = record { same = c.match_stage text k (one q) (one r); apart = c.word_apart text MatchWord k refl }
one (g.define_stage {text = text} k q r v) =
    record { same = c.define_stage text k (one q) (one r) (brace_begins v) (one v); apart = c.word_apart text FnWord k refl }
one (g.undefine_stage {text = text} k q r j) = record { same = c.undefine_stage text k (one q) (one r) j; apart = c.word_apart text FnWord k refl }
one (g.piped q r) = let p = one q in record { same = c.piped p (one r); apart = p.apart }
one (g.no_bar {rest = rest} h) = record { same = c.no_bar rest h; apart = tt }
one (g.bar_stage {slot = slot} {ts = ts} q r) = record { same = c.bar_stage slot ts (stage_leads q) (one q) (one r); apart = tt }
one (g.bar_leading {slot = slot} {ts = ts} q) = record { same = c.bar_leading slot ts (leading_leads q) (one q); apart = tt }
one (g.bar_assigned {slot = slot} {ts = ts} q) = record { same = c.bar_assigned slot ts (assigned_leads q) (one q); apart = tt }
one (g.not_leading {after_if = f} {text = text} k q) = record { same = o.not_leading f text k (one q); apart = tt }
one (g.subshell_leading {after_if = f} {text = text} k q) = record { same = o.subshell_leading f text k (one q); apart = tt }
one (g.redir_leading {after_if = f} {ts = ts} q r j) = record { same = o.redir_leading f ts (redir_word q) (one q) (one r) (one j); apart = tt }
one (g.if_leading {after_if = f} {text = text} {ts = ts} k q r) = record { same = o.if_leading f text ts k (paren_word q) (one q) (one r); apart = tt }
one (g.while_leading {after_if = f} {text = text} {ts = ts} k q r) = record { same = o.while_leading f text ts k (paren_word q) (one q) (one r); apart = tt }
one (g.if_not_leading {text = text} {next_text = other} {ts = ts} {next = next} k j i r) =
    record { same = o.if_not_leading text other ts next k j i (one r); apart = tt }
one (g.for_all_leading {after_if = f} {text = text} {ts = ts} k j q i r) = record { same = o.for_all_leading f text ts k j (one q) i (one r); apart = tt }
one (g.for_leading {after_if = f} {text = text} {next_text = other} {ts = ts} k j q i w r v) =
    record { same = o.for_leading f text other ts k j (one q) i (one r) (one v); apart = tt }
one (g.assignment {ts = ts} h q r j) = let p = one q in record { same = o.assignment p (one r) (one j); apart = c.assigned_apart ts h p }
one (g.another_value {ts = ts} h q r j) =
    let p = one q in record { same = o.another_value ts h (arg_starts q) (c.assigned_apart ts h p) p (one r) (one j); apart = tt }
one (g.values_alone {rest = rest} h) = record { same = o.values_alone rest h; apart = tt }
one (g.values_leading {ts = ts} q) = record { same = o.values_leading ts (leading_leads q) (leading_commands q) (one q); apart = tt }
one (g.values_pipe {ts = ts} q) = record { same = o.values_pipe ts (pipe_leads q) (pipe_commands q) (one q); apart = tt }
one (g.leading_operand {after_if = f} {ts = ts} q) = record { same = o.leading_operand f ts (leading_leads q) (one q); apart = tt }
one (g.assigned_operand {after_if = f} {ts = ts} q) = record { same = o.assigned_operand f ts (assigned_leads q) (one q); apart = tt }
one (g.pipe_operand {after_if = f} {ts = ts} q) = record { same = o.pipe_operand f ts (pipe_leads q) (one q); apart = tt }
one (g.no_operand {rest = rest} h) = record { same = o.no_operand rest h; apart = tt }
one (g.one_operand {ts = ts} q) = record { same = o.one_operand ts (operand_commands q) (one q); apart = tt }
one (g.linked {after_if = f} q r) = record { same = o.linked f (one q) (one r); apart = tt }
one (g.no_link {rest = rest} h) = record { same = o.no_link rest h; apart = tt }
one (g.and_link {ts = ts} q r) = record { same = o.and_link ts (one q) (one r); apart = tt }
one (g.or_link {ts = ts} q r) = record { same = o.or_link ts (one q) (one r); apart = tt }
one (g.no_body {ts = ts} h k) = record { same = o.no_body ts h; apart = tt }
one (g.one_body {ts = ts} q) = record { same = o.one_body ts (command_commands q) (one q); apart = tt }
one (g.no_item {in_switch = b} {after_if = f} {rest = rest} h) = record { same = l.no_item b f rest h; apart = tt }
one (g.semicolon_item {in_switch = b} {after_if = f} q) = record { same = l.semicolon_item b f (one q); apart = tt }
one (g.newline_item {in_switch = b} {after_if = f} q) = record { same = l.newline_item b f (one q); apart = tt }
one (g.one_item {in_switch = b} {after_if = f} {ts = ts} h q r) = record { same = l.one_item b f ts h (command_commands q) (one q) (one r); apart = tt }
one (g.after_last {in_switch = b} {after_if = f} {rest = rest} h) = record { same = l.after_last b f rest h; apart = tt }
one (g.after_semicolon {in_switch = b} {after_if = f} q) = record { same = l.after_semicolon b f (one q); apart = tt }
one (g.after_newline {in_switch = b} {after_if = f} q) = record { same = l.after_newline b f (one q); apart = tt }
one (g.after_background {in_switch = b} {after_if = f} q) = record { same = l.after_background b f (one q); apart = tt }
one (g.no_branch {rest = rest}) = record { same = l.no_branch rest; apart = tt }
one (g.semicolon_branch q) = record { same = l.semicolon_branch (one q); apart = tt }
one (g.newline_branch q) = record { same = l.newline_branch (one q); apart = tt }
one (g.one_branch {text = text} h q k r j) = record { same = l.one_branch text (one q) (one r) (one j); apart = tt }

pub one_tree : (ts : List Lexeme) (tree other : Node t.cmd) → HaveTree ts tree → HaveTree ts other → tree ≡ other
one_tree ts tree other p q =
    let m = (one p.1).same _ _ _ q.1 refl in p.2 ∙ ap t.Seq m.tree ∙ sym q.2
