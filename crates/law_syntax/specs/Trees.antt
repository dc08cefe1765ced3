-- The trees of a list of lexemes.
use Rattle.std.specs.Prelude.{◌≡◌, List}
use Rattle.rc_model.specs.Syntax.Tokens.{Lexeme}
use Rattle.rc_model.specs.Syntax.Tree.{Node}
use Rattle.rc_model.specs.Syntax.Tree as t
use Rattle.rc_model.specs.Syntax.Grammar.{HaveTree}

-- a list of lexemes has at most one tree, of any size
abbrev pub HasOneTreeAtMost : Type 0
HasOneTreeAtMost = (ts : List Lexeme) (tree other : Node t.cmd) → HaveTree ts tree → HaveTree ts other → tree ≡ other
