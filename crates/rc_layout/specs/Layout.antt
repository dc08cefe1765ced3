-- The layout of a script.
use Rattle.std.specs.Prelude.{◌≡◌, ℕ, List, Some}
use Rattle.rc_model.specs.Mirrors.FirstFault.{first_fault}
use Rattle.rc_model.specs.Syntax.Accepted.{IsAccepted}
use Rattle.rc_model.specs.Syntax.Tree.{Node, cmd}
use Rattle.rc_model.specs.declared.fault.InputError.{InputError}
use Rattle.rc_model.specs.declared.fault.InputError.TheVariants as error
use Rattle.rc_layout.specs.declared.layout.LayoutFault.{LayoutFault}
use Rattle.rc_layout.specs.declared.layout.LayoutFault.TheVariants as layout

-- the script is accepted
abbrev pub IsScript : List ℕ → Type 0
IsScript script = (tree : Node cmd) × IsAccepted script tree

-- a text that is a script with the tree of this one
abbrev pub HasTheTreeOf : List ℕ → List ℕ → Type 0
HasTheTreeOf script text = (tree : Node cmd) × (IsAccepted script tree × IsAccepted text tree)

-- Why a script has no layout: it has this fault, and no other one before it. Any other script is accepted, and what was
-- found has another tree or is too long. Out of memory says nothing about the script.
abbrev pub Hinders : List ℕ → InputError LayoutFault → Type 0
Hinders script (error.Fault (layout.Refused f)) = first_fault script ≡ Some f
Hinders script (error.Fault layout.Unlike) = IsScript script
Hinders script (error.Fault layout.TooLong) = IsScript script
Hinders script error.NoMemory = Unit {0}
