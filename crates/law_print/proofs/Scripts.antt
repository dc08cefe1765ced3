-- The trees of texts.
use Rattle.std.proofs.Common.{ℕ, List, map, Ok, IsUtf8}
use Rattle.rc_model.specs.Syntax.Tree.{Node, cmd}
use Rattle.rc_model.specs.Syntax.Tokens.{Token, Lexes}
use Rattle.rc_model.specs.Syntax.Grammar.{HaveTree}
use Rattle.law_print.specs.Lexemes.{IsWritable}
use Rattle.law_syntax.proofs.Spelled.{spelled_tokens}
use Rattle.law_print.proofs.WrittenTrees.{script_written}

pub written_trees : (text : List ℕ) (tokens : List Token) (c : Node cmd) → IsUtf8 text → Lexes text (Ok tokens) →
    HaveTree (map (λ t. t.lexeme) tokens) c → IsWritable c
written_trees text tokens c u r s = script_written (map (λ t. t.lexeme) tokens) c s (spelled_tokens text tokens u r)
