-- The findings in a script, and its canonical form.
use Rattle.std.specs.Prelude.{◌≡◌, ◌≤◌, ◌<◌, List, ℕ, Option, Some, None, IfSome, true, false, length, string_bytes}
use Rattle.rc_model.specs.Syntax.Accepted.{IsAccepted, longest_script}
use Rattle.rc_model.specs.Syntax.Printing.{has_here, printed}
use Rattle.rc_model.specs.Syntax.Tree.{Node, cmd}
use Rattle.rc_model.specs.Mirrors.FirstFault.{first_fault}
use Rattle.rc_check.specs.Positions.{IsOnLine}
use Rattle.rc_check.specs.declared.faults.findings.Finding.{Finding}
use Rattle.rc_check.specs.declared.canonical_form.Canonical.{Canonical}
use Rattle.rc_check.specs.declared.canonical_form.Canonical.TheVariants as form

-- the script is accepted
abbrev pub IsScript : List ℕ → Type 0
IsScript script = (tree : Node cmd) × IsAccepted script tree

-- The script is not accepted, and this is its first fault; if the finding has a place, that is in the script, on the
-- line of the fault.
pub record IsFoundIn (script : List ℕ) (f : Finding) : Type 0 where
  pub first : first_fault script ≡ Some f.fault
  pub never : ¬ IsScript script
  pub placed : IfSome f.place (IsOnLine script f.fault.line)

-- there is no finding if and only if the script is accepted
abbrev pub IsChecked : List ℕ → Option Finding → Type 0
IsChecked script None = IsScript script
IsChecked script (Some f) = IsFoundIn script f

-- The script is accepted with this tree, which has no here document inside, and its text is no longer than a script may
-- be; the other text is a script with the same tree.
pub record HasForm (script text : List ℕ) (tree : Node cmd) : Type 0 where
  pub accepted : IsAccepted script tree
  pub without : has_here tree ≡ false
  pub short : length (printed tree) ≤ longest_script
  pub same : IsAccepted text tree

-- the script is accepted with this tree, whose text has no here document inside and is longer than a script may be
pub record HasLongForm (script : List ℕ) (tree : Node cmd) : Type 0 where
  pub accepted : IsAccepted script tree
  pub without : has_here tree ≡ false
  pub long : longest_script < length (printed tree)

-- the script is accepted with this tree, and a here document is inside
pub record HasHereInside (script : List ℕ) (tree : Node cmd) : Type 0 where
  pub accepted : IsAccepted script tree
  pub inside : has_here tree ≡ true

-- which form a script has; no two of these hold of one script, since a script has one tree
abbrev pub IsCanonicalOf : List ℕ → Canonical → Type 0
IsCanonicalOf script (form.Text text) = (tree : Node cmd) × HasForm script (string_bytes text) tree
IsCanonicalOf script form.Refused = ¬ IsScript script
IsCanonicalOf script form.HereInside = (tree : Node cmd) × HasHereInside script tree
IsCanonicalOf script form.TooLong = (tree : Node cmd) × HasLongForm script tree

-- each tree of one text is one of the other
abbrev pub KeepsTree : List ℕ → List ℕ → Type 0
KeepsTree text other = (tree : Node cmd) → IsAccepted text tree → IsAccepted other tree
