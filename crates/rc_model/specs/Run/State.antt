-- The state of a shell. A finite map is the list of its entries, in byte order of their names.
use Rattle.std.specs.Prelude.{ℕ, List, [], ◌∷◌, ◌++◌, length, Bool, false, not, ◌&&◌, ◌||◌, ◌==◌, if◌then◌else◌, codes}
use Rattle.std.specs.Prelude.{unwrap_or, Option, Some}
use Rattle.std.specs.List.{list_all, list_any}
use Rattle.std.specs.Str.{bytes_eq}
use Rattle.std.specs.Map.{lookup, remove_entry}
use Rattle.std.specs.BTreeMap.{insert_entry}
use Rattle.rc_model.specs.Syntax.Text.{text_cmp, spaced}
use Rattle.rc_model.specs.Syntax.Tokens.{is_name_char}
use Rattle.rc_model.specs.Run.Numbers.{is_digit, digits_value}
use Rattle.rc_model.specs.Run.Lists.{member}
use Rattle.rc_model.specs.Syntax.Tree.{Node, cmd}

-- the state of a shell
pub record State : Type 0 where
  -- each name with its values: the top one is visible, a local covers those below
  pub variables : List (List ℕ × List (List (List ℕ)))
  -- the names of the open locals, the newest first
  pub locals : List (List ℕ)
  pub functions : List (List ℕ × Node cmd)
  pub status : List ℕ
  -- the flag for `if not`
  pub flag : Bool
  -- a simple command that fails ends the shell
  pub strict : Bool
  -- the children in the background, in the order of their starts
  pub background : List ℕ

-- nothing is set, and the status is null
abbrev pub new_state : State
new_state =
    record { variables = []; locals = []; functions = []; status = []; flag = false; strict = false; background = [] }

-- the name of the status
abbrev pub status_name : List ℕ
status_name = codes "status"

-- all values of a name, the visible one first
abbrev pub values_of : State → List ℕ → List (List (List ℕ))
values_of s name = unwrap_or (lookup (bytes_eq name) s.variables) []

-- the top value, or the empty one if there is none
abbrev pub visible : List (List (List ℕ)) → List (List ℕ)
visible [] = []
visible (v ∷ vs) = v

-- the other values
abbrev pub covered : List (List (List ℕ)) → List (List (List ℕ))
covered [] = []
covered (v ∷ vs) = vs

-- the value of a name: the status has one member
abbrev pub value_of : State → List ℕ → List (List ℕ)
value_of s name = if bytes_eq name status_name then s.status ∷ [] else visible (values_of s name)

-- the name of a variable: not empty, and not all digits
abbrev pub is_name : List ℕ → Bool
is_name name = list_all is_name_char name && not (list_all is_digit name)

-- the name of a variable that is read: it may also be all digits
abbrev pub is_readable : List ℕ → Bool
is_readable name = list_all is_name_char name && not (length name == 0)

-- the name of a function: not empty, without `=` and byte 0
abbrev pub is_function_name : List ℕ → Bool
is_function_name name = not (length name == 0) && not (list_any (λ c. (c == 61) || (c == 0)) name)

-- the state with this status
abbrev pub with_status : State → List ℕ → State
with_status s text = record s { status = text }

-- a name with these values; one with none is not in the map
abbrev pub put_values : List (List ℕ × List (List (List ℕ))) → List ℕ → List (List (List ℕ)) →
    List (List ℕ × List (List (List ℕ)))
put_values variables name [] = remove_entry (bytes_eq name) variables
put_values variables name (v ∷ vs) = insert_entry text_cmp variables name (v ∷ vs)

-- an assignment changes the visible value; one to the status joins its members by spaces
abbrev pub set_value : State → List ℕ → List (List ℕ) → State
set_value s name value =
    if bytes_eq name status_name
    then with_status s (spaced value)
    else record s { variables = put_values s.variables name (value ∷ covered (values_of s name)) }

-- ends the newest of these locals; a local of the status has no value to uncover
abbrev pub end_local : State → List (List ℕ) → State
end_local s [] = s
end_local s (name ∷ names) =
    if bytes_eq name status_name
    then record s { locals = names }
    else record s { locals = names; variables = put_values s.variables name (covered (values_of s name)) }

-- ends the newest local
abbrev pub pop_local : State → State
pop_local s = end_local s s.locals

-- each character of a true status is `0` or `|`
abbrev pub is_true : List ℕ → Bool
is_true status = list_all (λ c. (c == 48) || (c == 124)) status

-- the value of `$` and a name: for digits a member of `$*`
abbrev pub dollar_value : State → List ℕ → List (List ℕ)
dollar_value s name =
    if list_all is_digit name && not (length name == 0)
    then member (value_of s (codes "*")) (Some (digits_value 0 name)) else value_of s name

-- a new local with this value; one of the status sets it
abbrev pub push_local : State → List ℕ → List (List ℕ) → State
push_local s name value =
    if bytes_eq name status_name
    then record s { locals = name ∷ s.locals; status = spaced value }
    else record s { locals = name ∷ s.locals; variables = put_values s.variables name (value ∷ values_of s name) }

-- the state with this flag for `if not`
abbrev pub with_flag : State → Bool → State
with_flag s flag = record s { flag = flag }

-- `!` turns a true status into `false` and any other into null
abbrev pub inverted : State → State
inverted s = with_status s (if is_true s.status then codes "false" else [])

-- the body of a function
abbrev pub function_of : State → List ℕ → Option (Node cmd)
function_of s name = lookup (bytes_eq name) s.functions

-- the state with this function defined
abbrev pub define : State → List ℕ → Node cmd → State
define s name body = record s { functions = insert_entry text_cmp s.functions name body }

-- the state without these functions
abbrev pub undefine : State → List (List ℕ) → State
undefine s [] = s
undefine s (name ∷ names) = undefine (record s { functions = remove_entry (bytes_eq name) s.functions }) names

-- the state with this child in the background
abbrev pub add_child : State → ℕ → State
add_child s n = record s { background = s.background ++ n ∷ [] }

-- the list without the first child of this number
abbrev pub without_child : ℕ → List ℕ → List ℕ
without_child n [] = []
without_child n (m ∷ ms) = if m == n then ms else m ∷ without_child n ms

-- the state without the first child of this number in the background
abbrev pub drop_child : State → ℕ → State
drop_child s n = record s { background = without_child n s.background }
