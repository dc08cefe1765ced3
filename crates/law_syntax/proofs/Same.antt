-- A phrase with one tree and one rest, and how phrases begin.
use Rattle.std.proofs.Common.{◌≡◌, ℕ, Bool, true, false, not, List, ◌∷◌, refl, sym, ap, ◌∙◌}
use Rattle.rc_model.specs.Syntax.Tokens.{Lexeme, Word, LeftBrace, Redirection, CopyTo, HereDoc}
use Rattle.rc_model.specs.Syntax.Tree.{Node}
use Rattle.rc_model.specs.Syntax.Tree as t
use Rattle.rc_model.specs.Syntax.Grammar.{Phrase, Level, Out, keyword, begins_first, begins_redir, begins_brace}
use Rattle.rc_model.specs.declared.syntax.Keyword.{Keyword}
use Rattle.rc_model.specs.Syntax.Grammar as g
use Rattle.rc_model.specs.declared.syntax.Keyword.TheVariants.{At as AtWord, Bang as BangWord, Fn as FnWord, For as ForWord, If as IfWord}
use Rattle.rc_model.specs.declared.syntax.Keyword.TheVariants.{Match as MatchWord, Plain as NoKeyword, Switch as SwitchWord, While as WhileWord}
use Rattle.law_syntax.proofs.Beginnings.{plain_is}

-- the same tree and the same rest
pub record Same (l : Level) (x : Out l) (r : List Lexeme) (y : Out l) (s : List Lexeme) : Type 0 where
  pub tree : x ≡ y
  pub rest : r ≡ s

-- each phrase of this level on these tokens has this tree and this rest
abbrev pub Alike : (l : Level) → List Lexeme → Out l → List Lexeme → Type 0
Alike l ts x r = (us : List Lexeme) (y : Out l) (s : List Lexeme) → Phrase l us y s → ts ≡ us → Same l x r y s

-- a stage doesn't begin like an assignment, nor an assignment like a stage
abbrev pub Apart : Level → List Lexeme → Type 0
Apart g.stage ts = (us : List Lexeme) (c : Node t.cmd) (r : List Lexeme) → Phrase g.assigned us c r → ts ≡ us → ⊥
Apart g.pipe ts = (us : List Lexeme) (c : Node t.cmd) (r : List Lexeme) → Phrase g.assigned us c r → ts ≡ us → ⊥
Apart g.assigned ts = (us : List Lexeme) (c : Node t.cmd) (r : List Lexeme) → Phrase g.stage us c r → ts ≡ us → ⊥
Apart l ts = Unit {0}

pub record One (l : Level) (ts : List Lexeme) (x : Out l) (r : List Lexeme) : Type 0 where
  pub same : Alike l ts x r
  pub apart : Apart l ts

-- the keywords that a stage may begin with
abbrev pub is_stage_word : Keyword → Bool
is_stage_word SwitchWord = true
is_stage_word FnWord = true
is_stage_word MatchWord = true
is_stage_word NoKeyword = true
is_stage_word _ = false

-- whether an operand begins here that is neither a pipeline nor an assignment
abbrev pub leads : List Lexeme → Bool
leads (Word text ∷ ts) = not (is_stage_word (keyword text))
leads ts = begins_redir ts

-- the keyword of the first word
abbrev pub keyword_at : List Lexeme → Keyword
keyword_at (Word text ∷ ts) = keyword text
keyword_at ts = NoKeyword

pub first_plain : (ts : List Lexeme) → begins_first ts ≡ true → keyword_at ts ≡ NoKeyword
first_plain (Word text ∷ ts) h = plain_is (keyword text) h
first_plain ts h = refl

pub first_no_brace : (ts : List Lexeme) → begins_first ts ≡ true → begins_brace ts ≡ false
first_no_brace (LeftBrace ∷ ts) h = absurd cc
first_no_brace ts h = refl

pub first_leads : (ts : List Lexeme) → begins_first ts ≡ true → leads ts ≡ false
first_leads (Word text ∷ ts) h = ap (λ k. not (is_stage_word k)) (plain_is (keyword text) h)
first_leads (Redirection mode slot ∷ ts) h = absurd cc
first_leads (CopyTo to from ∷ ts) h = absurd cc
first_leads (HereDoc quoted text ∷ ts) h = absurd cc
first_leads ts h = refl

brace_leads : {ts : List Lexeme} {c : Node t.cmd} {rest : List Lexeme} → Phrase g.brace ts c rest → leads ts ≡ false
brace_leads (g.braced q) = refl

pub brace_word : {ts : List Lexeme} {c : Node t.cmd} {rest : List Lexeme} → Phrase g.brace ts c rest → keyword_at ts ≡ NoKeyword
brace_word (g.braced q) = refl

word_leads : (text : List ℕ) (k : Keyword) → keyword text ≡ k → not (is_stage_word (keyword text)) ≡ not (is_stage_word k)
word_leads text k h = ap (λ z. not (is_stage_word z)) h

pub stage_leads : {ts : List Lexeme} {c : Node t.cmd} {rest : List Lexeme} → Phrase g.stage ts c rest → leads ts ≡ false
stage_leads (g.simple_stage {ts = ts} first q v s) = first_leads ts first
stage_leads (g.brace_stage q s) = brace_leads q
stage_leads (g.switch_stage {text = text} k q e s r) = word_leads text SwitchWord k
stage_leads (g.match_stage {text = text} k q s) = word_leads text MatchWord k
stage_leads (g.define_stage {text = text} k q s r) = word_leads text FnWord k
stage_leads (g.undefine_stage {text = text} k q s e) = word_leads text FnWord k

pub pipe_leads : {ts : List Lexeme} {c : Node t.cmd} {rest : List Lexeme} → Phrase g.pipe ts c rest → leads ts ≡ false
pipe_leads (g.piped q r) = stage_leads q

pub assigned_leads : {ts : List Lexeme} {c : Node t.cmd} {rest : List Lexeme} → Phrase g.assigned ts c rest → leads ts ≡ false
assigned_leads (g.assignment {ts = ts} first q r s) = first_leads ts first

redir_leads : {ts : List Lexeme} {n : Node t.redir} {rest : List Lexeme} → Phrase g.redir ts n rest → leads ts ≡ true
redir_leads (g.open_redir q) = refl
redir_leads (g.copy_redir) = refl
redir_leads (g.here_redir) = refl

pub leading_leads : {after_if : Bool} {ts : List Lexeme} {c : Node t.cmd} {rest : List Lexeme} → Phrase (g.leading after_if) ts c rest → leads ts ≡ true
leading_leads (g.not_leading {text = text} k q) = word_leads text BangWord k
leading_leads (g.subshell_leading {text = text} k q) = word_leads text AtWord k
leading_leads (g.redir_leading q s o) = redir_leads q
leading_leads (g.if_leading {text = text} k q r) = word_leads text IfWord k
leading_leads (g.while_leading {text = text} k q r) = word_leads text WhileWord k
leading_leads (g.if_not_leading {text = text} k e j r) = word_leads text IfWord k
leading_leads (g.for_all_leading {text = text} k e q j r) = word_leads text ForWord k
leading_leads (g.for_leading {text = text} k e q j i s r) = word_leads text ForWord k

-- no redirection and no parenthesis begins with a keyword
pub redir_word : {ts : List Lexeme} {n : Node t.redir} {rest : List Lexeme} → Phrase g.redir ts n rest → keyword_at ts ≡ NoKeyword
redir_word (g.open_redir q) = refl
redir_word (g.copy_redir) = refl
redir_word (g.here_redir) = refl

pub paren_word : {ts : List Lexeme} {c : Node t.cmd} {rest : List Lexeme} → Phrase g.paren ts c rest → keyword_at ts ≡ NoKeyword
paren_word (g.parenthesised q) = refl

-- what is computed from the same tokens is the same
pub through : {B : Type 0} (f : List Lexeme → B) {ts us : List Lexeme} {a b : B} → ts ≡ us → f ts ≡ a → f us ≡ b → a ≡ b
through f e h k = sym h ∙ ap f e ∙ k

pub tail : {x y : Lexeme} {ts us : List Lexeme} → x ∷ ts ≡ y ∷ us → ts ≡ us
tail e = cc
