-- What a shell is handed when it is started.
use Rattle.std.specs.Prelude.{◌≡◌, ℕ, List, true, Option, Some, None}
use Rattle.rc_model.specs.Run.Calls.{Launch, Call, start}
use Rattle.rc_model.specs.Syntax.Tree.{Node, cmd}
use Rattle.rc_model.specs.Run.State.{State}
use Rattle.rc_model.specs.Handed.Image.{is_fit, shell_launch}

-- a launch hands over a tree and a state, which are not too large
pub record IsHanded (l : Launch) : Type 0 where
  pub tree : Node cmd
  pub state : State
  pub is : l ≡ shell_launch l.slots tree state
  pub fits : is_fit l ≡ true

-- a shell is handed such an image; for a program nothing is required
abbrev pub HandedTo : Option (List ℕ) → Launch → Type 0
HandedTo None l = IsHanded l
HandedTo (Some path) l = Unit {0}

-- a shell that is started by this call is handed such an image
abbrev pub HandsOver : Call → Type 0
HandsOver (start l) = HandedTo l.program l
HandsOver _ = Unit {0}
