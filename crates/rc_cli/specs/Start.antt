-- The state that a script begins in.
use Rattle.std.specs.Prelude.{ℕ, List, [], ◌∷◌, length, not, ◌==◌, ◌&&◌, if◌then◌else◌, codes}
use Rattle.rc_model.specs.Handed.Environment.{bindings, fresh_state, variables_in}
use Rattle.rc_model.specs.Run.State.{State, set_value, value_of}
use Rattle.rc_cli.specs.Requests.{Request}

-- the state that the entries of any program denote: neither functions nor a status are read
unfoldable pub given_state : (entries : List (List ℕ)) → State
given_state entries = fresh_state (variables_in (bindings entries)) [] []

-- a variable without members gets these, if there are any
unfoldable pub with_default : (name : List ℕ) → List (List ℕ) → State → State
with_default name value s =
    if length (value_of s name) == 0 && not (length value == 0) then set_value s name value else s

-- words are split at a space, a tab or a newline
abbrev pub default_ifs : List (List ℕ)
default_ifs = (32 ∷ 9 ∷ 10 ∷ []) ∷ []

-- programs are looked for in two directories
abbrev pub default_path : List (List ℕ)
default_path = codes "/bin" ∷ codes "/usr/bin" ∷ []

-- the variables that the environment lacks; the home directory is that of `HOME`
unfoldable pub with_defaults : State → State
with_defaults s =
    with_default (codes "home") (value_of s (codes "HOME"))
    (with_default (codes "path") default_path
    (with_default (codes "ifs") default_ifs s))

-- `$*` are the arguments of the script, even if there are none, and the environment has the other variables
unfoldable pub first_state : Request → (entries : List (List ℕ)) → State
first_state r entries =
    record (with_defaults (set_value (given_state entries) (codes "*") r.arguments)) { strict = r.strict }
