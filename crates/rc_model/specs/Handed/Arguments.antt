-- What a shell hands over to another in the arguments and entries of a launch, and how the other reads it.
use Rattle.std.specs.Prelude.{ℕ, List, [], ◌∷◌, drop, Bool, true, false, if◌then◌else◌, codes, Option, Some, None}
use Rattle.std.specs.Prelude.{Result, Ok, Err}
use Rattle.std.specs.Str.{bytes_eq}
use Rattle.rc_model.specs.Run.Calls.{Launch, plain}
use Rattle.rc_model.specs.Syntax.Tree.{Node, cmd}
use Rattle.rc_model.specs.Run.State.{State, visible}
use Rattle.rc_model.specs.Handed.Image.{is_fit, shell_launch}
use Rattle.rc_model.specs.Handed.TreeReading.{ImageFault, ◌>>=◌}
use Rattle.rc_model.specs.Handed.WordsReading.{read_pieces}
use Rattle.rc_model.specs.Handed.Environment.{Variables, fresh_state, read_state}

-- ** handing over

-- the arguments and entries of a launch, if it is within the limits
abbrev pub fit : Launch → Option (List (List ℕ) × List (List ℕ))
fit l = if is_fit l then Some (l.args, l.entries) else None

-- the arguments and entries that hand over a command and a state, if they fit
abbrev pub handed : Node cmd → State → Option (List (List ℕ) × List (List ℕ))
handed c s = fit (shell_launch plain c s)

-- a name with its visible value, unless that is empty, before the others
abbrev pub with_top : List ℕ → List (List ℕ) → Variables → Variables
with_top name [] others = others
with_top name (m ∷ ms) others = (name, (m ∷ ms) ∷ []) ∷ others

-- each name with its visible value alone, unless that is empty
abbrev pub flat : Variables → Variables
flat [] = []
flat (b ∷ bs) = with_top b.0 (visible b.1) (flat bs)

-- the state in which a subshell begins
abbrev pub entry_state : State → State
entry_state s = record (fresh_state (flat s.variables) s.functions s.status) { strict = s.strict }

-- ** reading

-- the tree and the state that words and entries denote: the words after the image are `$*`
abbrev pub read_image : (strict : Bool) → List (List ℕ) → List (List ℕ) → Result (Node cmd × State) ImageFault
read_image strict words entries =
    read_pieces words >>= λ image.
    read_state true (drop image.1 words) entries >>= λ s.
    Ok (image.0, record s { strict = strict })

-- `-S`, and the words after it
abbrev pub after_mark : (strict : Bool) → List (List ℕ) → Option (Bool × List (List ℕ))
after_mark strict [] = None
after_mark strict (word ∷ words) = if bytes_eq word (codes "-S") then Some (strict, words) else None

-- an optional `-e`, then `-S`, and the words of the image
abbrev pub options : List (List ℕ) → Option (Bool × List (List ℕ))
options [] = None
options (word ∷ words) = if bytes_eq word (codes "-e") then after_mark true words else after_mark false (word ∷ words)

-- the value that was read, if there was no fault
abbrev pub as_option : {A : Type 0} → Result A ImageFault → Option A
as_option (Ok x) = Some x
as_option (Err e) = None

-- the tree and the state in these words, if there are any, and in entries
abbrev pub reads_by : Option (Bool × List (List ℕ)) → List (List ℕ) → Option (Node cmd × State)
reads_by None entries = None
reads_by (Some o) entries = as_option (read_image o.0 o.1 entries)

-- the tree and the state that are handed over
abbrev pub reads : List (List ℕ) → List (List ℕ) → Option (Node cmd × State)
reads args entries = reads_by (options args) entries
