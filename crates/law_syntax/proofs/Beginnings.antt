-- How phrases begin and end.
use Rattle.std.proofs.Common.{◌≡◌, Bool, true, false, List, [], ◌∷◌, refl}
use Rattle.rc_model.specs.Syntax.Tokens.{Lexeme, Word, RightParen, RightBrace, Redirection, CopyTo, HereDoc}
use Rattle.rc_model.specs.Syntax.Tree.{Node}
use Rattle.rc_model.specs.Syntax.Tree as t
use Rattle.rc_model.specs.Syntax.Grammar.{Phrase, is_plain, begins_arg, begins_redir, begins_brace, begins_command, closes, ends}
use Rattle.rc_model.specs.Syntax.Grammar as g
use Rattle.rc_model.specs.declared.syntax.Keyword.{Keyword}
use Rattle.rc_model.specs.declared.syntax.Keyword.TheVariants.{Plain as NoKeyword}

-- ** arguments, redirections and braces

part_begins : {inside : Bool} {ts : List Lexeme} {a : Node t.arg} {rest : List Lexeme} → Phrase (g.part inside) ts a rest → begins_arg ts ≡ true
part_begins g.word_part = refl
part_begins g.quoted_part = refl
part_begins (g.paren_part p) = refl
part_begins (g.back_part p) = refl
part_begins (g.var_part p h) = refl
part_begins (g.sub_part p q) = refl
part_begins (g.count_part p) = refl
part_begins (g.flat_part p) = refl

pub arg_begins : {inside : Bool} {ts : List Lexeme} {a : Node t.arg} {rest : List Lexeme} → Phrase (g.arg inside) ts a rest → begins_arg ts ≡ true
arg_begins (g.joined p q) = part_begins p

pub redir_begins : {ts : List Lexeme} {n : Node t.redir} {rest : List Lexeme} → Phrase g.redir ts n rest → begins_redir ts ≡ true
redir_begins (g.open_redir q) = refl
redir_begins (g.copy_redir) = refl
redir_begins (g.here_redir) = refl

pub redir_no_arg : (ts : List Lexeme) → begins_redir ts ≡ true → begins_arg ts ≡ false
redir_no_arg (Redirection mode slot ∷ ts) h = refl
redir_no_arg (CopyTo to from ∷ ts) h = refl
redir_no_arg (HereDoc quoted text ∷ ts) h = refl
redir_no_arg ts h = absurd cc

pub brace_begins : {ts : List Lexeme} {c : Node t.cmd} {rest : List Lexeme} → Phrase g.brace ts c rest → begins_brace ts ≡ true
brace_begins (g.braced q) = refl

-- where a list is closed it ends, inside a switch too
pub closes_ends : (in_switch : Bool) (ts : List Lexeme) → closes ts ≡ true → ends in_switch ts ≡ true
closes_ends true (Word text ∷ ts) h = absurd cc
closes_ends true [] h = refl
closes_ends true (RightParen ∷ ts) h = refl
closes_ends true (RightBrace ∷ ts) h = refl
closes_ends true ts h = absurd cc
closes_ends false ts h = h

-- a plain word has no keyword
pub plain_is : (k : Keyword) → is_plain k ≡ true → k ≡ NoKeyword
plain_is NoKeyword h = refl
plain_is k h = absurd cc

-- ** commands

pub arg_commands : (ts : List Lexeme) → begins_arg ts ≡ true → begins_command ts ≡ true
arg_commands ts h = rw h refl

pub arg_starts : {inside : Bool} {ts : List Lexeme} {a : Node t.arg} {rest : List Lexeme} → Phrase (g.arg inside) ts a rest → begins_command ts ≡ true
arg_starts {ts = ts} q = arg_commands ts (arg_begins q)

redir_commands : (ts : List Lexeme) → begins_redir ts ≡ true → begins_command ts ≡ true
redir_commands ts h = rw (redir_no_arg ts h, h) refl

brace_commands : {ts : List Lexeme} {c : Node t.cmd} {rest : List Lexeme} → Phrase g.brace ts c rest → begins_command ts ≡ true
brace_commands (g.braced q) = refl

pub stage_commands : {ts : List Lexeme} {c : Node t.cmd} {rest : List Lexeme} → Phrase g.stage ts c rest → begins_command ts ≡ true
stage_commands (g.simple_stage {ts = ts} h q j s) = arg_commands ts (arg_begins q)
stage_commands (g.brace_stage q s) = brace_commands q
stage_commands (g.switch_stage h q e s v) = refl
stage_commands (g.match_stage h q s) = refl
stage_commands (g.define_stage h q s v) = refl
stage_commands (g.undefine_stage h q s j) = refl

pub pipe_commands : {ts : List Lexeme} {c : Node t.cmd} {rest : List Lexeme} → Phrase g.pipe ts c rest → begins_command ts ≡ true
pipe_commands (g.piped q s) = stage_commands q

pub leading_commands : {f : Bool} {ts : List Lexeme} {c : Node t.cmd} {rest : List Lexeme} → Phrase (g.leading f) ts c rest → begins_command ts ≡ true
leading_commands (g.not_leading h q) = refl
leading_commands (g.subshell_leading h q) = refl
leading_commands (g.redir_leading {ts = ts} q s v) = redir_commands ts (redir_begins q)
leading_commands (g.if_leading h q s) = refl
leading_commands (g.while_leading h q s) = refl
leading_commands (g.if_not_leading h e k q) = refl
leading_commands (g.for_all_leading h e q k s) = refl
leading_commands (g.for_leading h e q k j s v) = refl

pub operand_commands : {f : Bool} {ts : List Lexeme} {c : Node t.cmd} {rest : List Lexeme} → Phrase (g.operand f) ts c rest → begins_command ts ≡ true
operand_commands (g.leading_operand q) = leading_commands q
operand_commands (g.assigned_operand (g.assignment h q s v)) = arg_starts q
operand_commands (g.pipe_operand q) = pipe_commands q

pub command_commands : {f : Bool} {ts : List Lexeme} {c : Node t.cmd} {rest : List Lexeme} → Phrase (g.command f) ts c rest → begins_command ts ≡ true
command_commands (g.linked q s) = operand_commands q
