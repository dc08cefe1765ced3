-- The built-in commands, and what the words of a simple command do.
use Rattle.std.specs.Prelude.{ℕ, length, ◌==◌, not, List, [], ◌∷◌, ◌++◌, Bool, ◌||◌, ◌&&◌, if◌then◌else◌, Option, Some}
use Rattle.std.specs.Prelude.{None, codes, drop, nat_le, map}
use Rattle.std.specs.List.{list_any, list_all}
use Rattle.std.specs.Str.{bytes_eq}
use Rattle.rc_model.specs.Syntax.Text.{spaced}
use Rattle.rc_model.specs.Syntax.Tokens.{quoted_text}
use Rattle.rc_model.specs.Syntax.Grammar.{keyword, is_plain}
use Rattle.rc_model.specs.Syntax.Printing.{printed, has_here}
use Rattle.rc_model.specs.Run.Numbers.{is_digit, number_of}
use Rattle.rc_model.specs.Run.Patterns.{is_dots}
use Rattle.rc_model.specs.Run.Calls.{Slots, Read, open_file, close, write, change_dir, as_file, as_done}
use Rattle.rc_model.specs.Syntax.Tree.{Node, cmd}
use Rattle.rc_model.specs.Mirrors.TreeOfText.{tree_of}
use Rattle.rc_model.specs.Run.State.{State, value_of, set_value, is_name, function_of, drop_child}
use Rattle.rc_model.specs.Run.Shell.{Shell, ◌>>=◌, ◌>>◌, pure, skip, call, say, get, change, exits}
use Rattle.rc_model.specs.Run.Acts.{set_status, fails, is_path, candidates, find_program, run_program, waited, read_all}
use Rattle.rc_model.specs.Run.Acts.{longest_file}
pub use Rattle.rc_model.specs.declared.builtin.Builtin.{Builtin}
pub use Rattle.rc_model.specs.declared.builtin.Builtin.TheVariants.{Dot, BuiltinWord, Cd, Eval, Exec, Exit, Shift}
pub use Rattle.rc_model.specs.declared.builtin.Builtin.TheVariants.{Wait, Whatis}

-- the built-in command of this name, if there is one
abbrev pub builtin_named : List ℕ → Option Builtin
builtin_named name =
    if bytes_eq name (codes ".") then Some Dot
    else if bytes_eq name (codes "builtin") then Some BuiltinWord
    else if bytes_eq name (codes "cd") then Some Cd
    else if bytes_eq name (codes "eval") then Some Eval
    else if bytes_eq name (codes "exec") then Some Exec
    else if bytes_eq name (codes "exit") then Some Exit
    else if bytes_eq name (codes "shift") then Some Shift
    else if bytes_eq name (codes "wait") then Some Wait
    else if bytes_eq name (codes "whatis") then Some Whatis
    else None

-- What is still to be run after the words of a simple command: nothing, a body, or a body with `$*` of its own
pub data Called : Type 0 where
  Finished : Called
  Body : Node cmd → Called
  BodyWith : (args : List (List ℕ)) → Node cmd → Called

-- a command that is finished after this
abbrev pub finished : Shell (Unit {0}) → Shell Called
finished m = do
  m
  pure Finished

-- a built-in command with wrong arguments sets the status, and does nothing else
abbrev pub usage : Shell Called
usage = finished (set_status (codes "usage"))

-- the tree of a text is run this way, unless the text isn't a script
abbrev pub unless_no_script : (Node cmd → Called) → Option (Node cmd) → Shell Called
unless_no_script called (Some c) = pure (called c)
unless_no_script called None = finished (set_status (codes "syntax error"))

-- a text that is run as a script
abbrev pub as_body : Option (Node cmd) → Shell Called
as_body c = unless_no_script Body c

-- a text that is run as a script, with `$*` of its own
abbrev pub as_body_with : List (List ℕ) → Option (Node cmd) → Shell Called
as_body_with args c = unless_no_script (BodyWith args) c

-- a file that was opened, or else the first of the others that opens
abbrev pub opened_or : Shell (Option ℕ) → Option ℕ → Shell (Option ℕ)
opened_or others (Some h) = pure (Some h)
opened_or others None = others

-- the first of these paths that opens, if one does
abbrev pub open_first : List (List ℕ) → Shell (Option ℕ)
open_first [] = pure None
open_first (path ∷ paths) = do
  a ← call (open_file path Read)
  opened_or (open_first paths) (as_file a)

-- runs a text that was read from a file, or sets the status to why it was not read to the end
abbrev pub whole_file : List (List ℕ) → List ℕ → Option (List ℕ) → Shell Called
whole_file args text None = as_body_with args (tree_of text)
whole_file args text (Some why) = finished (set_status why)

-- reads, closes and runs a file that was opened
abbrev pub run_file : List (List ℕ) → Option ℕ → Shell Called
run_file args None = finished (set_status (codes "cannot open"))
run_file args (Some h) = do
  out ← read_all longest_file h
  say (close h)
  whole_file args out.text out.why

-- `. file arg ...`
abbrev pub dot : List (List ℕ) → Shell Called
dot [] = usage
dot (file ∷ args) = do
  s ← get
  h ← open_first (candidates s file)
  run_file args h

-- makes the first of these directories that can be entered the current one
abbrev pub first_dir : List (List ℕ) → Shell (Unit {0})
first_dir [] = set_status (codes "cannot cd")
first_dir (d ∷ ds) = do
  a ← call (change_dir d)
  if as_done a then set_status [] else first_dir ds

-- whether a directory is tried without `$cdpath`
abbrev pub is_own_dir : List ℕ → Bool
is_own_dir dir = is_path dir || is_dots dir

-- a directory under a member of `$cdpath`
abbrev pub under_dir : List ℕ → List ℕ → List ℕ
under_dir dir member = if (length member == 0) || bytes_eq member (codes ".") then dir else member ++ 47 ∷ dir

-- the paths that are tried for a directory, given the value of `$cdpath`
abbrev pub dirs_by : List ℕ → List (List ℕ) → List (List ℕ)
dirs_by dir [] = dir ∷ []
dirs_by dir (m ∷ ms) = if is_own_dir dir then dir ∷ [] else map (under_dir dir) (m ∷ ms)

-- the first member of a value, if it has one
abbrev pub first_member : List (List ℕ) → List (List ℕ)
first_member [] = []
first_member (m ∷ ms) = m ∷ []

-- the paths that are tried for a directory, if one is given
abbrev pub dirs_of : State → List (List ℕ) → List (List ℕ)
dirs_of s [] = []
dirs_of s (dir ∷ others) = dirs_by dir (value_of s (codes "cdpath"))

-- `cd [dir]`
abbrev pub cd : List (List ℕ) → Shell Called
cd [] = do
  s ← get
  finished (first_dir (dirs_of s (first_member (value_of s (codes "home")))))
cd (dir ∷ []) = do
  s ← get
  finished (first_dir (dirs_of s (dir ∷ [])))
cd (dir ∷ other ∷ others) = usage

-- `exit [w ...]`
abbrev pub exit_status : List (List ℕ) → Shell (Unit {0})
exit_status [] = skip
exit_status (w ∷ ws) = set_status (spaced (w ∷ ws))

-- drops the first n members of `$*`
abbrev pub shifted : Option ℕ → Shell Called
shifted None = usage
shifted (Some n) =
    finished (change (λ s. record (set_value s (codes "*") (drop n (value_of s (codes "*")))) { status = [] }))

-- `shift [n]`
abbrev pub shift : List (List ℕ) → Shell Called
shift [] = shifted (Some 1)
shift (n ∷ []) = shifted (number_of n)
shift (n ∷ m ∷ ms) = usage

-- takes a child out of the list, and then waits for it
abbrev pub wait_child : ℕ → Shell (Unit {0})
wait_child n = do
  change (λ s. drop_child s n)
  status ← waited n
  set_status status

-- waits for all these children, in order
abbrev pub wait_all : List ℕ → Shell (Unit {0})
wait_all [] = skip
wait_all (n ∷ ns) = do
  wait_child n
  wait_all ns

-- waits for the child of this number, if the list has one
abbrev pub wait_one : ℕ → State → Shell (Unit {0})
wait_one n s = if list_any (λ m. m == n) s.background then wait_child n else set_status (codes "no such child")

-- the same, if the word is a number
abbrev pub wait_numbered : Option ℕ → Shell Called
wait_numbered None = usage
wait_numbered (Some n) = do
  s ← get
  finished (wait_one n s)

-- `wait [n]`
abbrev pub wait_for : List (List ℕ) → Shell Called
wait_for [] = do
  set_status []
  s ← get
  finished (wait_all s.background)
wait_for (n ∷ []) = wait_numbered (number_of n)
wait_for (n ∷ m ∷ ms) = usage

-- a character that needs no quotes
abbrev pub is_plain_char : ℕ → Bool
is_plain_char c =
    is_digit c || (nat_le 65 c && nat_le c 90) || (nat_le 97 c && nat_le c 122) || list_any (λ d.
    d == c) (codes "_./-+,:%")

-- a member as `whatis` prints it: quoted unless it is plain, not empty and not a keyword
abbrev pub shown : List ℕ → List ℕ
shown text =
    if not (length text == 0) && (list_all is_plain_char text && is_plain (keyword text)) then text
    else quoted_text text

-- a value as `whatis` prints it: its one member, or its members in parentheses
abbrev pub shown_value : List (List ℕ) → List ℕ
shown_value [] = codes "()"
shown_value (m ∷ []) = shown m
shown_value (m ∷ n ∷ ms) = codes "(" ++ (spaced (map shown (m ∷ n ∷ ms)) ++ codes ")")

-- what is known about a name: its lines, and a status if something is missing
abbrev pub Known : Type 0
Known = List ℕ × Option (List ℕ)

-- a text with a newline after it
abbrev pub line : List ℕ → List ℕ
line text = text ++ 10 ∷ []

-- the line of a variable, if its value isn't empty
abbrev pub value_line : List ℕ → List (List ℕ) → List ℕ
value_line name [] = []
value_line name (m ∷ ms) = if is_name name then line (name ++ 61 ∷ shown_value (m ∷ ms)) else []

-- the line of a function, unless there is a here document in its body
abbrev pub function_line : List ℕ → Node cmd → Known
function_line name body =
    if has_here body then ([], Some (codes "here document"))
    else (line (codes "fn " ++ (name ++ (codes " {" ++ (printed body ++ codes "}")))), None)

-- the line of a program: its path, if it was found
abbrev pub program_line : Option (List ℕ) → Known
program_line None = ([], Some (codes "not found"))
program_line (Some path) = (line path, None)

-- looks for a program if no variable is printed
abbrev pub other_line : List ℕ → List ℕ → Shell Known
other_line name [] = do
  path ← find_program name
  pure (program_line path)
other_line name (b ∷ bs) = pure ([], None)

-- the line of a function, a built-in command or a program
abbrev pub command_line : List ℕ → List ℕ → Option (Node cmd) → Option Builtin → Shell Known
command_line name shown (Some body) b = pure (function_line name body)
command_line name shown None (Some b) = pure (line (codes "builtin " ++ name), None)
command_line name shown None None = other_line name shown

-- all that is known about a name
abbrev pub known_of : List ℕ → Shell Known
known_of name = do
  s ← get
  k ← command_line name (value_line name (value_of s name)) (function_of s name) (builtin_named name)
  pure (value_line name (value_of s name) ++ k.0, k.1)

-- the later of two statuses, if there is one
abbrev pub later : Option (List ℕ) → Option (List ℕ) → Option (List ℕ)
later before None = before
later before (Some status) = Some status

-- all that is known about these names
abbrev pub known_each : List (List ℕ) → Shell Known
known_each [] = pure ([], None)
known_each (name ∷ names) = do
  first ← known_of name
  others ← known_each names
  pure (first.0 ++ others.0, later first.1 others.1)

-- the status of the last name that has one, else null
abbrev pub met : Option (List ℕ) → List ℕ
met None = []
met (Some status) = status

-- writes the lines in one call, if there are any
abbrev pub write_lines : Slots → List ℕ → Option (List ℕ) → Shell (Unit {0})
write_lines slots [] status = set_status (met status)
write_lines slots (b ∷ bs) status = do
  a ← call (write slots.output (b ∷ bs))
  set_status (if as_done a then met status else codes "cannot write")

-- `whatis name ...`
abbrev pub whatis : Slots → List (List ℕ) → Shell Called
whatis slots names = do
  k ← known_each names
  finished (write_lines slots k.0 k.1)

-- `exec cmd ...`
abbrev pub exec : Slots → List (List ℕ) → Shell Called
exec slots [] = usage
exec slots (name ∷ args) = do
  run_program slots name args
  exits

-- runs a built-in command with these words; those after `builtin` are run by the first argument
abbrev pub run_builtin : Shell Called → Slots → Builtin → List (List ℕ) → Shell Called
run_builtin again slots Dot args = dot args
run_builtin again slots BuiltinWord args = again
run_builtin again slots Cd args = cd args
run_builtin again slots Eval args = as_body (tree_of (spaced args))
run_builtin again slots Exec args = exec slots args
run_builtin again slots Exit args = do
  exit_status args
  exits
run_builtin again slots Shift args = shift args
run_builtin again slots Wait args = wait_for args
run_builtin again slots Whatis args = whatis slots args

-- runs a built-in command, else a program
abbrev pub run_command : Shell Called → Slots → List ℕ → List (List ℕ) → Option Builtin → Shell Called
run_command again slots name args (Some b) = run_builtin again slots b args
run_command again slots name args None = finished (run_program slots name args)

-- runs the words after `builtin`, for which functions are ignored
abbrev pub without_functions : Slots → List (List ℕ) → Shell Called
without_functions slots [] = usage
without_functions slots (name ∷ args) = run_command (without_functions slots args) slots name args (builtin_named name)

-- calls the function of this name, else runs the words as if there were none
abbrev pub run_named : Slots → List ℕ → List (List ℕ) → Option (Node cmd) → Shell Called
run_named slots name args (Some body) = pure (BodyWith args body)
run_named slots name args None = without_functions slots (name ∷ args)

-- runs the words of a simple command
abbrev pub run_words : Slots → List (List ℕ) → Shell Called
run_words slots [] = fails slots (codes "empty argument list")
run_words slots (name ∷ args) = do
  s ← get
  run_named slots name args (function_of s name)
