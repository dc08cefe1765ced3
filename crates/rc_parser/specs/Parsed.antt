-- The result of the parser.
use Rattle.std.specs.Prelude.{◌≡◌, ℕ, List, Result, IfOk, IfErr}
use Rattle.rc_model.specs.Syntax.Accepted.{IsAccepted}
use Rattle.rc_model.specs.Syntax.Tree.{Node, cmd}
use Rattle.rc_lexer.specs.Answers.{ScriptError}
use Rattle.rc_tree.specs.View.{cmd_tree}
use Rattle.rc_tree.specs.declared.types.Cmd.{Cmd}
use Rattle.rc_parser.specs.Faults.{Refuses}

-- the tree is the script's only one, or the fault is the script's own, or memory ran out
pub record Parses (script : List ℕ) (result : Result Cmd ScriptError) : Type 0 where
  pub accepted : IfOk result (λ c. IsAccepted script (cmd_tree c))
  pub only : IfOk result (λ c. (other : Node cmd) → IsAccepted script other → other ≡ cmd_tree c)
  pub refused : IfErr result (λ e. Refuses e script)
