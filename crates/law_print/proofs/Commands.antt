-- Commands that are read again where they are printed.
use Rattle.std.proofs.Common.{◌≡◌, refl, sym, ap, ◌∙◌, Bool, true, false, not, ◌&&◌, List, ◌∷◌, ◌++◌, append_assoc, append-nil}
use Rattle.std.proofs.Common.{◌⊎◌}
use Rattle.std.proofs.lemmas.Bool.{not-true}
use Rattle.rc_model.specs.Syntax.Tokens.{Lexeme, LeftParen, RightParen, LeftBrace, RightBrace}
use Rattle.rc_model.specs.Syntax.Tree.{Node, Many, none, more}
use Rattle.rc_model.specs.Syntax.Tree as t
use Rattle.rc_model.specs.Syntax.Grammar.{Phrase, redirect}
use Rattle.rc_model.specs.Syntax.Grammar.{begins_first, begins_redir}
use Rattle.rc_model.specs.Syntax.Grammar as g
use Rattle.rc_model.specs.Syntax.Printing.{begins_with_case, stands_first}
use Rattle.law_print.specs.Lexemes.{cmd_lexemes, arg_lexemes, args_lexemes, redirs_lexemes, listed, branch_lines}
use Rattle.law_print.proofs.Follows.{EndsStage, quiet, Fits}
use Rattle.law_print.proofs.Follows.{Opens, by_word, by_quoted, by_paren, by_backquote, by_dollar, by_count, by_flat, by_redirection, by_copy, by_brace}
use Rattle.law_print.proofs.Follows.{arg_open, open_on, arg_redir}
use Rattle.law_print.proofs.Arguments.{at, PrintsArg, PrintsArgs, PrintsRedirs, args_apart, args_value, redirs_apart, redirs_value}
use Rattle.law_print.proofs.Arguments.{simple_print}

-- lists in braces and in parentheses
abbrev pub PrintsBrace : Node t.cmd → Type 0
PrintsBrace c = (rest : List Lexeme) → Phrase g.brace (LeftBrace ∷ (cmd_lexemes c false ++ (RightBrace ∷ rest))) c rest

abbrev pub PrintsParen : Node t.cmd → Type 0
PrintsParen c = (rest : List Lexeme) → Phrase g.paren (LeftParen ∷ (cmd_lexemes c false ++ (RightParen ∷ rest))) c rest

abbrev pub PrintsBranches : Many t.branch → Type 0
PrintsBranches bs = (rest : List Lexeme) → Phrase g.branches (listed (branch_lines bs) ++ (RightBrace ∷ rest)) bs (RightBrace ∷ rest)

-- a stage that takes redirections after it
abbrev pub Extends : Node t.cmd → Type 0
Extends c = (rs : Many t.redir) → PrintsRedirs rs → (rest : List Lexeme) → EndsStage rest →
    Phrase g.stage (cmd_lexemes c false ++ (redirs_lexemes rs ++ rest)) (redirect rs c) rest

pub record Firm (c : Node t.cmd) : Type 0 where
  pub extends : Extends c
  pub calm : (begins : Bool) → stands_first c begins ≡ true → Opens begins (cmd_lexemes c false)
  pub redir : begins_redir (cmd_lexemes c false) ≡ false

-- a stage: `ts` is what it was read from
pub record PrintsStage (begins : Bool) (ts : List Lexeme) (c : Node t.cmd) : Type 0 where
  pub phrase : (rest : List Lexeme) → EndsStage rest → Phrase g.stage (cmd_lexemes c begins ++ rest) c rest
  pub opens : Opens begins (cmd_lexemes c begins)
  pub redir : begins_redir ts ≡ false → begins_redir (cmd_lexemes c begins) ≡ false
  pub firm : stands_first c false ≡ true → Firm c

-- an operand and what is one: `ts` is what it was read from, with this rest
pub record Prints (P : List Lexeme → Node t.cmd → List Lexeme → Type 0) (begins : Bool) (ts rest : List Lexeme) (c : Node t.cmd) : Type 0 where
  pub phrase : (us : List Lexeme) → Fits rest us → P (cmd_lexemes c begins ++ us) c us
  pub opens : Opens begins (cmd_lexemes c begins)
  pub redir : begins_redir ts ≡ false → begins_redir (cmd_lexemes c begins) ≡ false
  pub firm : stands_first c false ≡ true → Firm c

-- redirections read before a stage are printed after it
abbrev pub AsLeading : (after_if : Bool) → List Lexeme → Node t.cmd → List Lexeme → Type 0
AsLeading after_if ts c rest = Phrase (g.leading after_if) ts c rest ⊎ Phrase g.stage ts c rest

abbrev pub AsAssigned : List Lexeme → Node t.cmd → List Lexeme → Type 0
AsAssigned ts c rest = Phrase g.assigned ts c rest

abbrev pub AsPipe : List Lexeme → Node t.cmd → List Lexeme → Type 0
AsPipe ts c rest = Phrase g.pipe ts c rest

abbrev pub AsOperand : (after_if : Bool) → List Lexeme → Node t.cmd → List Lexeme → Type 0
AsOperand after_if ts c rest = Phrase (g.operand after_if) ts c rest

-- what begins a command is there whatever follows
pub redir_on : {begins : Bool} {ts : List Lexeme} → Opens begins ts → (us : List Lexeme) → begins_redir (ts ++ us) ≡ begins_redir ts
redir_on (by_word h) us = refl
redir_on by_quoted us = refl
redir_on by_paren us = refl
redir_on by_backquote us = refl
redir_on by_dollar us = refl
redir_on by_count us = refl
redir_on by_flat us = refl
redir_on by_redirection us = refl
redir_on by_copy us = refl
redir_on by_brace us = refl

-- redirections are printed after a command, or before it
after_lexemes : (c : Node t.cmd) (begins : Bool) (rs : Many t.redir) → stands_first c begins ≡ true →
    cmd_lexemes (t.Redirect rs c) begins ≡ cmd_lexemes c false ++ redirs_lexemes rs
unfolding cmd_lexemes
after_lexemes (t.Simple words) begins rs h = rw h refl
after_lexemes (t.Brace body) begins rs h = refl
after_lexemes (t.Switch subject branches) begins rs h = refl
after_lexemes _ begins rs h = absurd cc

pub before_lexemes : (c : Node t.cmd) (begins : Bool) (rs : Many t.redir) → stands_first c begins ≡ false →
    cmd_lexemes (t.Redirect rs c) begins ≡ redirs_lexemes rs ++ cmd_lexemes c false
unfolding cmd_lexemes
before_lexemes (t.Simple words) begins rs h = rw h refl
before_lexemes (t.Brace body) begins rs h = absurd cc
before_lexemes (t.Switch subject branches) begins rs h = absurd cc
before_lexemes t.Empty begins rs h = sym (append-nil (redirs_lexemes rs))
before_lexemes _ begins rs h = refl

-- only what stands first stands first everywhere
pub stands_anywhere : (c : Node t.cmd) (begins : Bool) → stands_first c begins ≡ true → stands_first c false ≡ true
stands_anywhere (t.Simple words) begins h = refl
stands_anywhere (t.Brace body) begins h = refl
stands_anywhere (t.Switch subject branches) begins h = refl
stands_anywhere _ begins h = absurd cc

-- and its text is the same everywhere
same_anywhere : (c : Node t.cmd) (begins : Bool) → stands_first c begins ≡ true → cmd_lexemes c begins ≡ cmd_lexemes c false
unfolding cmd_lexemes
same_anywhere (t.Simple words) begins h = refl
same_anywhere (t.Brace body) begins h = refl
same_anywhere (t.Switch subject branches) begins h = refl
same_anywhere _ begins h = absurd cc

extended : (begins : Bool) (c : Node t.cmd) (rs : Many t.redir) → stands_first c begins ≡ true → Firm c → PrintsRedirs rs → (rest : List Lexeme) →
    EndsStage rest → Phrase g.stage (cmd_lexemes (redirect rs c) begins ++ rest) (redirect rs c) rest
unfolding redirs_lexemes
extended begins c none h f p rest e = rw (same_anywhere c begins h) (f.extends none p rest e)
extended begins c (more r rs) h f p rest e =
    at (ap (λ z. z ++ rest) (after_lexemes c begins (more r rs) h) ∙ append_assoc (cmd_lexemes c false) (redirs_lexemes (more r rs)) rest)
    (f.extends (more r rs) p rest e)

extended_opens : (begins : Bool) (c : Node t.cmd) (rs : Many t.redir) → stands_first c begins ≡ true → Firm c → Opens begins (cmd_lexemes (redirect rs c) begins)
extended_opens begins c none h f = rw (same_anywhere c begins h) (f.calm begins h)
extended_opens begins c (more r rs) h f = rw (after_lexemes c begins (more r rs) h) (open_on (redirs_lexemes (more r rs)) (f.calm begins h))

extended_redir : (begins : Bool) (c : Node t.cmd) (rs : Many t.redir) → stands_first c begins ≡ true → Firm c →
    begins_redir (cmd_lexemes (redirect rs c) begins) ≡ false
extended_redir begins c none h f = rw (same_anywhere c begins h) f.redir
extended_redir begins c (more r rs) h f =
    rw (after_lexemes c begins (more r rs) h) (redir_on (f.calm begins h) (redirs_lexemes (more r rs)) ∙ f.redir)

extended_firm : (c : Node t.cmd) (rs : Many t.redir) → Firm c → stands_first (redirect rs c) false ≡ true → Firm (redirect rs c)
extended_firm c none f h = f
extended_firm c (more r rs) f h = absurd cc

-- a stage with the redirections after it
pub stage_prints : (begins : Bool) (ts : List Lexeme) (c : Node t.cmd) (rs : Many t.redir) → stands_first c begins ≡ true → Firm c → PrintsRedirs rs →
    PrintsStage begins ts (redirect rs c)
stage_prints begins ts c rs h f p = record {
  phrase = extended begins c rs h f p;
  opens = extended_opens begins c rs h f;
  redir = λ k. extended_redir begins c rs h f;
  firm = extended_firm c rs f;
}

-- a command of words
pub simple_firm : (a : Node t.arg) (as' : Many t.arg) → PrintsArg a → PrintsArgs as' → ((us : List Lexeme) → begins_first (arg_lexemes a ++ us) ≡ true) →
    (begins_with_case a ≡ false → Opens true (arg_lexemes a)) → Firm (t.Simple (more a as'))
unfolding cmd_lexemes args_lexemes
simple_firm a as' p q first calm = record {
  extends = λ rs r rest e. at (append_assoc (arg_lexemes a) (args_lexemes as') (redirs_lexemes rs ++ rest))
      (g.simple_stage (first (args_lexemes as' ++ (redirs_lexemes rs ++ rest)))
      (p.phrase false (args_lexemes as' ++ (redirs_lexemes rs ++ rest)) (args_apart as' q (redirs_apart rs r (quiet e).apart)))
      (args_value as' q (redirs_lexemes rs ++ rest) (redirs_value rs r rest (quiet e).value)) (simple_print as' q rs r rest e));
  calm = λ begins h. open_on (args_lexemes as') (calm_at begins h);
  redir = redir_on (arg_open p.opens) (args_lexemes as') ∙ arg_redir p.opens;
}
  where
    calm_at : (begins : Bool) → not (begins && begins_with_case a) ≡ true → Opens begins (arg_lexemes a)
    calm_at true h = calm (not-true (begins_with_case a) h)
    calm_at false h = arg_open p.opens
