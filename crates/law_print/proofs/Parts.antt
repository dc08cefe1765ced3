-- Each name and each part of an argument is read again where it is printed.
use Rattle.std.proofs.Common.{◌≡◌, refl, sym, subst, ap, ◌∙◌, ℕ, Bool, false, true, List, [], ◌∷◌, ◌++◌, append_assoc}
use Rattle.rc_model.specs.Syntax.Tokens.{Lexeme, LeftParen, RightParen, LeftBrace, RightBrace, Backquote, Dollar, Subscript}
use Rattle.rc_model.specs.declared.call.Mode.{Mode}
use Rattle.rc_model.specs.Syntax.Tree.{Node, Many}
use Rattle.rc_model.specs.Syntax.Tree as t
use Rattle.rc_model.specs.Syntax.Grammar as g
use Rattle.law_print.specs.Lexemes.{cmd_lexemes, arg_lexemes, name_lexemes, args_lexemes, redir_lexemes}
use Rattle.law_print.proofs.Follows as f
use Rattle.law_print.proofs.Arguments.{at, PrintsName, PrintsPart, PrintsArg, PrintsArgs, PrintsRedir, members_print}
use Rattle.law_print.proofs.Commands.{PrintsBrace}

pub bare_name : (text : List ℕ) → PrintsName (t.Lit text false)
unfolding name_lexemes
bare_name text rest = g.bare_name

pub quoted_name : (text : List ℕ) → PrintsName (t.Lit text true)
unfolding name_lexemes
quoted_name text rest = g.quoted_name

pub named_name : (n : Node t.arg) → PrintsName n → PrintsName (t.Var n)
unfolding name_lexemes
named_name n p rest = g.named_name (p rest)

pub word_part : (text : List ℕ) → PrintsPart (t.Lit text false)
unfolding arg_lexemes
word_part text = record { phrase = λ inside rest h. g.word_part; opens = f.word }

pub quoted_part : (text : List ℕ) → PrintsPart (t.Lit text true)
unfolding arg_lexemes
quoted_part text = record { phrase = λ inside rest h. g.quoted_part; opens = f.quoted }

pub paren_part : (as' : Many t.arg) → PrintsArgs as' → PrintsPart (t.Paren as')
unfolding arg_lexemes
paren_part as' p = record {
  phrase = λ inside rest h. at (ap (λ z. LeftParen ∷ z) (append_assoc (args_lexemes as') (RightParen ∷ []) rest)) (g.paren_part (members_print as' p rest));
  opens = f.paren;
}

-- a brace stands directly after its backquote
past_brace : (inside : Bool) (ts : List Lexeme) → g.past_blanks inside (LeftBrace ∷ ts) ≡ LeftBrace ∷ ts
past_brace true ts = refl
past_brace false ts = refl

pub back_part : (c : Node t.cmd) → PrintsBrace c → PrintsPart (t.Back c)
unfolding arg_lexemes
back_part c p = record {
  phrase = λ inside rest h. at (ap (λ z. Backquote ∷ LeftBrace ∷ z) (append_assoc (cmd_lexemes c false) (RightBrace ∷ []) rest))
      (g.back_part (subst (λ z. g.Phrase g.brace z c rest) (sym (past_brace inside _)) (p rest)));
  opens = f.backquote;
}

pub var_part : (n : Node t.arg) → PrintsName n → PrintsPart (t.Var n)
unfolding arg_lexemes
var_part n p = record { phrase = λ inside rest h. g.var_part (p rest) h; opens = f.dollar }

pub count_part : (n : Node t.arg) → PrintsName n → PrintsPart (t.Count n)
unfolding arg_lexemes
count_part n p = record { phrase = λ inside rest h. g.count_part (p rest); opens = f.count }

pub flat_part : (n : Node t.arg) → PrintsName n → PrintsPart (t.Flat n)
unfolding arg_lexemes
flat_part n p = record { phrase = λ inside rest h. g.flat_part (p rest); opens = f.flat }

pub sub_part : (n : Node t.arg) (as' : Many t.arg) → PrintsName n → PrintsArgs as' → PrintsPart (t.Sub n as')
unfolding arg_lexemes
sub_part n as' p q = record {
  phrase = λ inside rest h.
      let name : List Lexeme = name_lexemes n in
      let words : List Lexeme = args_lexemes as' in
      at (ap (λ z. Dollar ∷ z) (append_assoc (name ++ Subscript ∷ []) (words ++ RightParen ∷ []) rest
      ∙ append_assoc name (Subscript ∷ []) ((words ++ RightParen ∷ []) ++ rest)
      ∙ ap (λ z. name ++ (Subscript ∷ z)) (append_assoc words (RightParen ∷ []) rest)))
      (g.sub_part (p (Subscript ∷ (words ++ (RightParen ∷ rest)))) (members_print as' q rest));
  opens = f.dollar;
}

pub open_redir : (mode : Mode) (slot : ℕ) (a : Node t.arg) → PrintsArg a → PrintsRedir (t.Open mode slot a)
unfolding redir_lexemes
open_redir mode slot a p = record { phrase = λ rest e. g.open_redir (p.phrase false rest e); opens = f.redirection }

pub copy_redir : (to from : ℕ) → PrintsRedir (t.Copy to from)
unfolding redir_lexemes
copy_redir to from = record { phrase = λ rest e. g.copy_redir; opens = f.copy }
