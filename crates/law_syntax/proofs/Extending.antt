-- A phrase before the last of the tokens so far is the same phrase when more tokens follow.
use Rattle.std.proofs.Common.{◌≡◌, ◌<◌, Bool, true, List, [], ◌∷◌, ◌++◌, Some, refl, sym, ap, subst, ◌∙◌, arith}
use Rattle.rc_model.specs.Syntax.Tokens.{Lexeme}
use Rattle.rc_model.specs.Syntax.Tree.{Node}
use Rattle.rc_model.specs.Syntax.Tree as t
use Rattle.rc_model.specs.Syntax.Grammar.{Phrase, Level, Out, past_newlines, past_blanks, past_caret}
use Rattle.rc_model.specs.Syntax.Grammar as g
use Rattle.law_syntax.specs.Parts.{has_next, ahead, ExtendsPhrases}
use Rattle.law_syntax.proofs.Shorter.{Phrase-shorter, least}
use Rattle.law_syntax.proofs.Ahead as on

-- there is a next token where a phrase begins before one, or takes one
next_before : {l : Level} {ts : List Lexeme} {x : Out l} {rest : List Lexeme} → Phrase l ts x rest → has_next rest ≡ true → has_next ts ≡ true
next_before {ts = ts} {rest = rest} p h = let a = Phrase-shorter p in let b = on.next_counts rest h in on.next_from ts (omega arith)

next_taken : {l : Level} {ts : List Lexeme} {x : Out l} {rest : List Lexeme} → Phrase l ts x rest → 0 < least l → has_next ts ≡ true
next_taken {ts = ts} p h = let a = Phrase-shorter p in on.next_from ts (omega arith)

-- members go on past newlines
next_member : {ts : List Lexeme} {as' : t.Many t.arg} {rest : List Lexeme} → Phrase g.members ts as' rest → has_next (past_newlines ts) ≡ true
next_member g.no_member = refl
next_member (g.blank_member p) = next_member p
next_member (g.member {ts = ts} p q) = arg_next ts p
  where
    arg_next : (ts : List Lexeme) {a : Node t.arg} {mid : List Lexeme} → Phrase (g.arg true) ts a mid → has_next (past_newlines ts) ≡ true
    arg_next ts (g.joined g.word_part q) = refl
    arg_next ts (g.joined g.quoted_part q) = refl
    arg_next ts (g.joined (g.paren_part p) q) = refl
    arg_next ts (g.joined (g.back_part p) q) = refl
    arg_next ts (g.joined (g.var_part p h) q) = refl
    arg_next ts (g.joined (g.sub_part p r) q) = refl
    arg_next ts (g.joined (g.count_part p) q) = refl
    arg_next ts (g.joined (g.flat_part p) q) = refl

-- a phrase of tokens that newlines, blanks or a caret are passed over for
from_newlines : {l : Level} {x : Out l} {rest : List Lexeme} (ts us : List Lexeme) → has_next (past_newlines ts) ≡ true → Phrase l (past_newlines ts ++ us) x rest → Phrase l (past_newlines (ts ++ us)) x rest
from_newlines {l = l} {x = x} {rest = rest} ts us h p = subst (λ z. Phrase l z x rest) (sym (on.newlines_on ts us h)) p

from_blanks : {l : Level} {x : Out l} {rest : List Lexeme} (inside : Bool) (ts us : List Lexeme) → has_next (past_blanks inside ts) ≡ true → Phrase l (past_blanks inside ts ++ us) x rest →
    Phrase l (past_blanks inside (ts ++ us)) x rest
from_blanks {l = l} {x = x} {rest = rest} inside ts us h p = subst (λ z. Phrase l z x rest) (sym (on.blanks_on inside ts us h)) p

from_caret : {l : Level} {x : Out l} {rest : List Lexeme} (ts us : List Lexeme) → has_next (past_caret ts) ≡ true → Phrase l (past_caret ts ++ us) x rest → Phrase l (past_caret (ts ++ us)) x rest
from_caret {l = l} {x = x} {rest = rest} ts us h p = subst (λ z. Phrase l z x rest) (sym (on.caret_on ts us (on.before_caret ts h))) p

-- the phrase with these tokens after it
more : (us : List Lexeme) {l : Level} {ts : List Lexeme} {x : Out l} {rest : List Lexeme} → Phrase l ts x rest → has_next (ahead l rest) ≡ true → Phrase l (ts ++ us) x (rest ++ us)
more us g.bare_name n = g.bare_name
more us g.quoted_name n = g.quoted_name
more us (g.named_name p) n = g.named_name (more us p n)
more us g.word_part n = g.word_part
more us g.quoted_part n = g.quoted_part
more us (g.paren_part p) n = g.paren_part (more us p n)
more us (g.back_part {inside = inside} {ts = ts} p) n = g.back_part (from_blanks inside ts us (next_taken p (omega arith)) (more us p n))
more us (g.var_part {rest = rest} p h) n = g.var_part (more us p n) (on.subscript_on rest us n ∙ h)
more us (g.sub_part p q) n = g.sub_part (more us p refl) (more us q n)
more us (g.count_part p) n = g.count_part (more us p n)
more us (g.flat_part p) n = g.flat_part (more us p n)
more us (g.joined {inside = inside} {rest = rest} p q) n = g.joined (more us p (next_before q (on.before_blanks inside rest n))) (more us q n)
more us (g.no_caret {inside = inside} {rest = rest} h) n =
    g.no_caret (ap g.after_caret (on.blanks_on inside rest us n) ∙ on.no_after_on (past_blanks inside rest) us n h)
more us (g.caret {inside = inside} {ts = ts} {next = next} {rest = rest} h p q) n =
    g.caret (ap g.after_caret (on.blanks_on inside ts us (after_next (past_blanks inside ts) next h)) ∙ on.after_on (past_blanks inside ts) next us h)
    (from_blanks inside next us (next_taken p (omega arith)) (more us p (next_before q (on.before_blanks inside rest n)))) (more us q n)
  where
    after_next : (ts next : List Lexeme) → g.after_caret ts ≡ Some next → has_next ts ≡ true
    after_next [] next h = absurd cc
    after_next (t ∷ ts) next h = refl
more us g.no_member n = g.no_member
more us (g.blank_member p) n = g.blank_member (more us p n)
more us (g.member p q) n = g.member (more us p (next_member q)) (more us q n)
more us (g.no_word {rest = rest} h) n = g.no_word (on.arg_on rest us n ∙ h)
more us (g.word p q) n = g.word (more us p (next_before q n)) (more us q n)
more us (g.open_redir p) n = g.open_redir (more us p n)
more us g.copy_redir n = g.copy_redir
more us g.here_redir n = g.here_redir
more us (g.no_redir {rest = rest} h) n = g.no_redir (on.redir_on rest us n ∙ h)
more us (g.redir_more p q) n = g.redir_more (more us p (next_before q n)) (more us q n)
more us (g.simple_end {rest = rest} h k) n = g.simple_end (on.arg_on rest us n ∙ h) (on.redir_on rest us n ∙ k)
more us (g.simple_word p q) n = g.simple_word (more us p (next_before q n)) (more us q n)
more us (g.simple_redir p q) n = g.simple_redir (more us p (next_before q n)) (more us q n)
more us (g.braced p) n = g.braced (more us p refl)
more us (g.parenthesised p) n = g.parenthesised (more us p refl)
more us (g.simple_stage {ts = ts} {mid = mid} h p k q) n =
    g.simple_stage (on.first_on ts us (next_taken p (omega arith)) ∙ h) (more us p (next_before q n)) (on.value_on mid us (next_before q n) ∙ k) (more us q n)
more us (g.brace_stage p q) n = g.brace_stage (more us p (next_before q n)) (more us q n)
more us (g.switch_stage {ts = ts} {mid = mid} {inner = inner} h p k q r) n =
    g.switch_stage h (from_caret ts us (next_taken p (omega arith)) (more us p (on.before_newlines mid (ap has_next k)))) (on.newlines_then_on mid inner us _ k) (more us q refl) (more us r n)
more us (g.match_stage {ts = ts} h p q) n = g.match_stage h (from_caret ts us (next_taken p (omega arith)) (more us p (next_before q n))) (more us q n)
more us (g.define_stage {ts = ts} h p q r) n =
    g.define_stage h (from_caret ts us (next_taken p (omega arith)) (more us p (next_before q (next_before r n)))) (more us q (next_before r n)) (more us r n)
more us (g.undefine_stage {ts = ts} {rest = rest} h p q k) n =
    g.undefine_stage h (from_caret ts us (next_taken p (omega arith)) (more us p (next_before q n))) (more us q n) (on.brace_on rest us n ∙ k)
more us (g.piped p q) n = g.piped (more us p (next_before q n)) (more us q n)
more us (g.no_bar {rest = rest} h) n = g.no_bar (on.bar_on rest us n ∙ h)
more us (g.bar_stage {ts = ts} p q) n = g.bar_stage (from_newlines ts us (next_taken p (omega arith)) (more us p (next_before q n))) (more us q n)
more us (g.bar_leading {ts = ts} p) n = g.bar_leading (from_newlines ts us (next_taken p (omega arith)) (more us p n))
more us (g.bar_assigned {ts = ts} p) n = g.bar_assigned (from_newlines ts us (next_taken p (omega arith)) (more us p n))
more us (g.not_leading {ts = ts} h p) n = g.not_leading h (from_caret ts us (next_taken p (omega arith)) (more us p n))
more us (g.subshell_leading {ts = ts} h p) n = g.subshell_leading h (from_caret ts us (next_taken p (omega arith)) (more us p n))
more us (g.redir_leading p q r) n = g.redir_leading (more us p (next_before q (next_before r n))) (more us q (next_before r n)) (more us r n)
more us (g.if_leading {ts = ts} h p q) n = g.if_leading h (from_caret ts us (next_taken p (omega arith)) (more us p (next_before q n))) (more us q n)
more us (g.while_leading {ts = ts} h p q) n = g.while_leading h (from_caret ts us (next_taken p (omega arith)) (more us p (next_before q n))) (more us q n)
more us (g.if_not_leading {ts = ts} {next = next} h k m p) n =
    g.if_not_leading h (on.caret_then_on ts next us _ k) m (from_caret next us (next_before p n) (more us p n))
more us (g.for_all_leading {ts = ts} {head = head} {mid = mid} {next = next} h k p m q) n =
    g.for_all_leading h (on.caret_then_on ts head us _ k) (from_newlines head us (next_taken p (omega arith)) (more us p (ap has_next m))) (on.newlines_then_on mid next us _ m) (more us q n)
more us (g.for_leading {ts = ts} {head = head} {mid = mid} {list = list} h k p m w q r) n =
    g.for_leading h (on.caret_then_on ts head us _ k) (from_newlines head us (next_taken p (omega arith)) (more us p (ap has_next m))) (on.newlines_then_on mid list us _ m) w
    (from_caret list us (next_taken q (omega arith)) (more us q (next_before r n))) (more us r n)
more us (g.assignment {ts = ts} h p q r) n = g.assignment (on.first_on ts us (next_taken p (omega arith)) ∙ h) (more us p refl) (more us q (next_before r n)) (more us r n)
more us (g.another_value {ts = ts} h p q r) n = g.another_value (on.first_on ts us (next_taken p (omega arith)) ∙ h) (more us p refl) (more us q (next_before r n)) (more us r n)
more us (g.values_alone {rest = rest} h) n = g.values_alone (on.command_on rest us n ∙ h)
more us (g.values_leading p) n = g.values_leading (more us p n)
more us (g.values_pipe p) n = g.values_pipe (more us p n)
more us (g.leading_operand p) n = g.leading_operand (more us p n)
more us (g.assigned_operand p) n = g.assigned_operand (more us p n)
more us (g.pipe_operand p) n = g.pipe_operand (more us p n)
more us (g.no_operand {rest = rest} h) n = g.no_operand (on.command_on rest us n ∙ h)
more us (g.one_operand p) n = g.one_operand (more us p n)
more us (g.linked p q) n = g.linked (more us p (next_before q n)) (more us q n)
more us (g.no_link {rest = rest} h) n = g.no_link (on.link_on rest us n ∙ h)
more us (g.and_link {ts = ts} p q) n = g.and_link (from_newlines ts us (next_taken p (omega arith)) (more us p (next_before q n))) (more us q n)
more us (g.or_link {ts = ts} p q) n = g.or_link (from_newlines ts us (next_taken p (omega arith)) (more us p (next_before q n))) (more us q n)
more us (g.no_body {ts = ts} h k) n =
    let e = on.newlines_on ts us n in
    subst (λ z. Phrase g.body (ts ++ us) t.Empty z) e
    (g.no_body (ap g.begins_command e ∙ on.command_on (past_newlines ts) us n ∙ h) (ap g.begins_link e ∙ on.link_on (past_newlines ts) us n ∙ k))
more us (g.one_body {ts = ts} p) n = g.one_body (from_newlines ts us (next_taken p (omega arith)) (more us p n))
more us (g.no_item {in_switch = in_switch} {rest = rest} h) n = g.no_item (on.ends_on in_switch rest us n ∙ h)
more us (g.semicolon_item p) n = g.semicolon_item (more us p n)
more us (g.newline_item p) n = g.newline_item (more us p n)
more us (g.one_item {in_switch = in_switch} {ts = ts} h p q) n =
    g.one_item (on.ends_on in_switch ts us (next_taken p (omega arith)) ∙ h) (more us p (next_before q n)) (more us q n)
more us (g.after_last {rest = rest} h) n = g.after_last (on.closes_on rest us n ∙ h)
more us (g.after_semicolon p) n = g.after_semicolon (more us p n)
more us (g.after_newline p) n = g.after_newline (more us p n)
more us (g.after_background p) n = g.after_background (more us p n)
more us g.no_branch n = g.no_branch
more us (g.semicolon_branch p) n = g.semicolon_branch (more us p n)
more us (g.newline_branch p) n = g.newline_branch (more us p n)
more us (g.one_branch {ts = ts} {mid = mid} h p k q r) n =
    g.one_branch h (from_caret ts us (next_before p (next_before q (next_before r n))) (more us p (next_before q (next_before r n)))) (on.case_on mid us (next_before q (next_before r n)) ∙ k) (more us q (next_before r n)) (more us r n)

pub law : ExtendsPhrases
law l ts rest us x p n = more us p n
