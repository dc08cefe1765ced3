-- The laws of printed texts.
use Rattle.std.specs.Prelude.{◌≡◌, ℕ, false, List, Ok, map, IsUtf8}
use Rattle.rc_model.specs.Syntax.Tree.{Node, cmd}
use Rattle.rc_model.specs.Syntax.Tokens.{Token, Lexes}
use Rattle.rc_model.specs.Syntax.Grammar.{HaveTree}
use Rattle.rc_model.specs.Syntax.Printing.{printed}
use Rattle.law_print.specs.Lexemes.{IsWritable, cmd_lexemes}

-- the text of each tree that can be written has tokens, with the lexemes of the tree
abbrev pub PrintedTokensLaw : Type 0
PrintedTokensLaw =
    (c : Node cmd) → IsWritable c → (tokens : List Token) ×
    (Lexes (printed c) (Ok tokens) × (map (λ t. t.lexeme) tokens ≡ cmd_lexemes c false))

-- each tree that a text has can be written
abbrev pub WrittenTreesLaw : Type 0
WrittenTreesLaw =
    (text : List ℕ) (tokens : List Token) (c : Node cmd) → IsUtf8 text → Lexes text (Ok tokens) →
    HaveTree (map (λ t. t.lexeme) tokens) c → IsWritable c
