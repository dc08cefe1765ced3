-- The tree of a text as a function, as a running script reads it.
use Rattle.std.specs.Prelude.{◌≡◌, ℕ, List, length, nat_le, ◌&&◌, Option, Some, None, Result, Ok, Err, if◌then◌else◌}
use Rattle.std.specs.Str.{is_utf8}
use Rattle.rc_model.specs.Syntax.Tokens.{Token}
use Rattle.rc_model.specs.Syntax.Faults.{SyntaxFault}
use Rattle.rc_model.specs.Mirrors.Reading.{lexed}
use Rattle.rc_model.specs.Syntax.Tree.{Node, cmd}
use Rattle.rc_model.specs.Mirrors.Descent.{Stop, script_tree}
use Rattle.rc_model.specs.Syntax.Accepted.{IsAccepted, lexemes, longest_script}
use Rattle.rc_model.specs.declared.limits.TheConstants.{MOST_LEVELS}

-- the tree that was found
abbrev pub found : Result (Node cmd) Stop → Option (Node cmd)
found (Ok tree) = Some tree
found (Err e) = None

-- the tree of these tokens, if they are accepted
abbrev pub tree_of_tokens : Result (List Token) SyntaxFault → Option (Node cmd)
tree_of_tokens (Ok tokens) = found (script_tree MOST_LEVELS (lexemes tokens))
tree_of_tokens (Err f) = None

-- the tree of this script, if it is accepted
abbrev pub tree_of : List ℕ → Option (Node cmd)
tree_of script = if is_utf8 script && nat_le (length script) longest_script then tree_of_tokens (lexed script) else None

-- it is found exactly if the script is accepted with that tree
abbrev pub FindsTheTree : Type 0
FindsTheTree =
    (script : List ℕ) (tree : Node cmd) → (tree_of script ≡ Some tree → IsAccepted script tree) ×
    (IsAccepted script tree → tree_of script ≡ Some tree)
