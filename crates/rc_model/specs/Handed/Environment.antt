-- The variables, functions and status that the entries of an environment denote.
use Rattle.std.specs.Prelude.{ℕ, List, [], ◌∷◌, drop, map, Bool, true, false, not, ◌&&◌, ◌==◌, if◌then◌else◌, codes}
use Rattle.std.specs.Prelude.{Option, Some, None}
use Rattle.std.specs.Prelude.{Result, Ok}
use Rattle.std.specs.List.{list_any, slice_split}
use Rattle.std.specs.Str.{bytes_eq}
use Rattle.std.specs.BTreeMap.{insert_entry}
use Rattle.rc_model.specs.Syntax.Text.{text_cmp, begins_with, spaced}
use Rattle.rc_model.specs.Syntax.Tree.{Node, cmd}
use Rattle.rc_model.specs.Run.State.{State, status_name, is_name, is_function_name}
use Rattle.rc_model.specs.Handed.Image.{stays_behind}
use Rattle.rc_model.specs.Handed.TreeReading.{ImageFault, ◌>>=◌, read_tree}

-- names with texts
abbrev pub Bindings : Type 0
Bindings = List (List ℕ × List ℕ)

-- names with their values, the visible one first
abbrev pub Variables : Type 0
Variables = List (List ℕ × List (List (List ℕ)))

-- names with the bodies of functions
abbrev pub Functions : Type 0
Functions = List (List ℕ × Node cmd)

-- byte 2 and `A` become byte 1, byte 2 and `B` byte 2; before another byte, or at the end, byte 2 stands for itself
abbrev pub unescaped : List ℕ → List ℕ
unescaped [] = []
unescaped (b ∷ []) = b ∷ []
unescaped (b ∷ c ∷ rest) =
    if b == 2
    then (if c == 65 then 1 ∷ unescaped rest else (if c == 66 then 2 ∷ unescaped rest else 2 ∷ unescaped (c ∷ rest)))
    else b ∷ unescaped (c ∷ rest)

-- the members of a value, which byte 1 separates
abbrev pub entry_members : List ℕ → List (List ℕ)
entry_members text = map unescaped (slice_split (λ b. b == 1) text)

-- a cut entry whose name begins with one more byte
abbrev pub with_first : ℕ → Option (List ℕ × List ℕ) → Option (List ℕ × List ℕ)
with_first b None = None
with_first b (Some x) = Some (b ∷ x.0, x.1)

-- NAME=TEXT is cut at the first `=`, if there is one
abbrev pub cut_entry : List ℕ → Option (List ℕ × List ℕ)
cut_entry [] = None
cut_entry (b ∷ bs) = if b == 61 then Some ([], bs) else with_first b (cut_entry bs)

-- an entry that could be cut, before the others
abbrev pub with_cut : Option (List ℕ × List ℕ) → Bindings → Bindings
with_cut None others = others
with_cut (Some b) others = b ∷ others

-- the names and texts of these entries; one without `=` is ignored
abbrev pub bindings : List (List ℕ) → Bindings
bindings [] = []
bindings (e ∷ es) = with_cut (cut_entry e) (bindings es)

-- the name of an entry that is read as a variable: neither `*` nor the status
abbrev pub is_variable : List ℕ → Bool
is_variable name = is_name name && not (stays_behind name)

-- the variables, each with one value; the first entry of a name counts
abbrev pub variables_in : Bindings → Variables
variables_in [] = []
variables_in (b ∷ bs) =
    if is_variable b.0 then insert_entry text_cmp (variables_in bs) b.0 (entry_members b.1 ∷ []) else variables_in bs

-- the status, which is null if none is handed over
abbrev pub status_in : Bindings → List ℕ
status_in [] = []
status_in (b ∷ bs) = if bytes_eq b.0 status_name then spaced (entry_members b.1) else status_in bs

-- `fn#` and the name of a function
abbrev pub is_function : List ℕ → Bool
is_function name = begins_with (codes "fn#") name && is_function_name (drop 3 name)

-- the functions with one more that was read
abbrev pub with_function : List ℕ → Result (Node cmd) ImageFault → Result Functions ImageFault →
    Result Functions ImageFault
with_function name body others = body >>= λ c. others >>= λ fs. Ok (insert_entry text_cmp fs (drop 3 name) c)

-- the functions, read one after the other; the first entry of a name counts, and `seen` are the names before these
abbrev pub functions_in : List (List ℕ) → Bindings → Result Functions ImageFault
functions_in seen [] = Ok []
functions_in seen (b ∷ bs) =
    if is_function b.0 && not (list_any (bytes_eq b.0) seen)
    then with_function b.0 (read_tree b.1) (functions_in (b.0 ∷ seen) bs)
    else functions_in seen bs

-- `$*` has the arguments, if there are any
abbrev pub with_args : List (List ℕ) → Variables → Variables
with_args [] variables = variables
with_args (a ∷ args) variables = insert_entry text_cmp variables (codes "*") ((a ∷ args) ∷ [])

-- functions are read only from a shell of the same kind
abbrev pub own_functions : Bool → Bindings → Result Functions ImageFault
own_functions true bs = functions_in [] bs
own_functions false bs = Ok []

-- the status is read only from a shell of the same kind, and is otherwise null
abbrev pub own_status : Bool → Bindings → List ℕ
own_status true bs = status_in bs
own_status false bs = []

-- the state with these variables, functions and this status, and nothing else set
abbrev pub fresh_state : Variables → Functions → List ℕ → State
fresh_state variables functions status = record {
  variables = variables;
  locals = [];
  functions = functions;
  status = status;
  flag = false;
  strict = false;
  background = [];
}

-- the state that arguments and entries denote
abbrev pub read_state : Bool → List (List ℕ) → List (List ℕ) → Result State ImageFault
read_state own args entries =
    own_functions own (bindings entries) >>= λ functions.
    Ok (fresh_state (with_args args (variables_in (bindings entries))) functions (own_status own (bindings entries)))
