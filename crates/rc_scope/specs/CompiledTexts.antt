-- Texts that run as scripts, and their code.
use Rattle.std.specs.Prelude.{◌≡◌, ℕ, List, Some}
use Rattle.rc_model.specs.Code.Layout.{code}
use Rattle.rc_model.specs.Mirrors.TreeOfText.{tree_of}
use Rattle.rc_model.specs.Syntax.Tree.{Node, cmd}
use Rattle.rc_code.specs.Views.{code_of}
use Rattle.rc_code.specs.declared.code.Code.{Code}

-- the text is accepted, and the code is that of its tree
abbrev pub IsCodeOfText : List ℕ → Code → Type 0
IsCodeOfText text done = (script : Node cmd) × (tree_of text ≡ Some script) × (code_of done ≡ code script)
