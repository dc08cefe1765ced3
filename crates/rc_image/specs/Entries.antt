-- The effect of the entries of an environment.
use Rattle.std.specs.Prelude.{ℕ, List, [], ◌∷◌, drop, Bool, not, ◌&&◌, ◌||◌, if◌then◌else◌, codes, is_some}
use Rattle.std.specs.Prelude.{Option, Some, None, Result, Ok}
use denote.Ref.{Bor}
use Rattle.std.specs.Str.{bytes_eq}
use Rattle.rc_model.specs.Run.State.{State, define, function_of, set_value, status_name}
use Rattle.rc_model.specs.Handed.TreeReading.{◌>>=◌, read_tree}
use Rattle.rc_model.specs.Handed.Environment.{Bindings, is_function, variables_in, functions_in}
use Rattle.rc_model.specs.Handed.Environment.{own_status, fresh_state}
use Rattle.rc_model.specs.declared.fault.ImageFault.{ImageFault}

-- two borrowed texts
abbrev pub pair_of : Bor (List ℕ) × Bor (List ℕ) → List ℕ × List ℕ
pair_of x = (x.0.now, x.1.now)

-- the name of a function and its image, if a cut entry is that of a function
unfoldable pub function_in : Option (List ℕ × List ℕ) → Option (List ℕ × List ℕ)
function_in None = None
function_in (Some b) = if is_function b.0 then Some (drop 3 b.0, b.1) else None

-- names that are never set: `*`, and the status that another program hands over
abbrev pub is_ignored : Bool → List ℕ → Bool
is_ignored own name = bytes_eq name (codes "*") || (bytes_eq name status_name && not own)

-- the state of these variables and their status
unfoldable pub values_state : Bool → Bindings → State
values_state own bs = fresh_state (variables_in bs) [] (own_status own bs)

-- the state with a function that is read, unless it has one of its name
unfoldable pub with_function : State → Option (List ℕ × List ℕ) → Result State ImageFault
with_function s None = Ok s
with_function s (Some f) =
    if is_some (function_of s f.0) then Ok s else (read_tree f.1 >>= λ c. Ok (define s f.0 c))

-- the state with the functions of these entries
unfoldable pub with_functions : State → Bindings → Result State ImageFault
with_functions s bs = functions_in [] bs >>= λ functions. Ok (record s { functions = functions })

-- the state with these arguments as `$*`, if there are any
unfoldable pub with_arguments : List (List ℕ) → State → State
with_arguments [] s = s
with_arguments (a ∷ args) s = set_value s (codes "*") (a ∷ args)
