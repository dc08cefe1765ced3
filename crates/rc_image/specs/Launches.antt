-- What is handed over in the launch of a shell.
use Rattle.std.specs.Prelude.{◌≡◌, ℕ, List, ◌∷◌, ◌++◌, if◌then◌else◌, codes, map, Option, Some, None}
use Rattle.std.specs.List.{list_all}
use Rattle.rc_model.specs.Handed.Arguments.{entry_state, reads}
use Rattle.rc_model.specs.Handed.Image.{entries, is_short, strict_option}
use Rattle.rc_model.specs.Run.State.{State, value_of}
use Rattle.rc_model.specs.Syntax.Tree.{Node, cmd}
use Rattle.rc_text.specs.Texts.{text_bytes}
use Rattle.rc_image.specs.declared.launch.Handover.{Handover}

-- the arguments and the entries
abbrev pub handed_of : Handover → List (List ℕ) × List (List ℕ)
handed_of h = (map text_bytes h.args.items, map text_bytes h.entries.items)

-- the handover reads back as this command and the state in which a subshell of this one begins
abbrev pub ReadsBack : Node cmd → State → Handover → Type 0
ReadsBack c s h = reads (handed_of h).0 (handed_of h).1 ≡ Some (c, entry_state s)

-- the arguments of a shell whose command is in these words; `shell_args` has those of a tree
abbrev pub args_with : List (List ℕ) → State → List (List ℕ)
args_with words s = strict_option s.strict ++ (codes "-S" ∷ (words ++ value_of s (codes "*")))

-- the entries of a state, if none of them is too long
unfoldable pub short_entries : State → Option (List (List ℕ))
short_entries s = if list_all is_short (entries s) then Some (entries s) else None
