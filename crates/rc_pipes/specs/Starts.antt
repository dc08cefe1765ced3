-- The result of the start of a child.
use Rattle.std.specs.Prelude.{ℕ, List, Option, String, map, option_map, string_bytes}
use Rattle.std.specs.declared.alloc.Global.{Global}
use Rattle.rc_text.specs.declared.texts.Text.{Text}
use Rattle.rc_text.specs.Texts.{text_bytes}
use Rattle.rc_model.specs.Run.Acts as acts
use Rattle.rc_pipes.specs.declared.programs.Started.{Started}
use Rattle.rc_pipes.specs.declared.programs.Started.TheVariants.{Child, NoChild}

-- a child, or why there is none
abbrev pub started_of : Started → acts.Started
started_of (Child n) = acts.Child n.0
started_of (NoChild why) = acts.NoChild why.now

-- the paths at which a program of this name may be, by these directories
abbrev pub paths_in : List ℕ → List Text → List (List ℕ)
paths_in name dirs = map (λ d. acts.candidate d name) (map text_bytes dirs)

-- the path of a program, if it was found
abbrev pub path_of : Option (String Global) → Option (List ℕ)
path_of found = option_map string_bytes found
