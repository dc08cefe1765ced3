-- How calls and their answers are written.
use Rattle.std.specs.Prelude.{ℕ, List, [], ◌∷◌, ◌++◌, codes, Bool, Option, Some, None}
use Rattle.std.specs.Fmt.{decimal}
use Rattle.rc_model.specs.Run.Calls.{Call, open_file, here, make_pipe, close, read, write, start, wait}
use Rattle.rc_model.specs.Run.Calls.{list_names, probe, change_dir}
use Rattle.rc_model.specs.Run.Calls.{Answer, file, pair, done, bytes, child, ended, names, found, refused}
use Rattle.rc_model.specs.Run.Calls.{Launch}
use Rattle.rc_model.specs.declared.call.Mode.{Mode}
use Rattle.rc_model.specs.declared.call.Slot.{Slot}
use Rattle.rc_model.specs.declared.call.Slots.{Slots}
use Rattle.rc_model.specs.declared.call.Kind.{Kind}
use Rattle.rc_model.specs.declared.call.Ending.{Ending}
use Rattle.rc_model.specs.declared.call.Fault.{Fault}
use Rattle.rc_model.specs.declared.call.Mode.TheVariants as mode
use Rattle.rc_model.specs.declared.call.Slot.TheVariants.{Own, To}
use Rattle.rc_model.specs.declared.call.Kind.TheVariants as kind
use Rattle.rc_model.specs.declared.call.Ending.TheVariants.{Code, Signal}
use Rattle.rc_model.specs.declared.call.Fault.TheVariants as fault
use Rattle.rc_trace.specs.Quotes.{bytes_text, path_text, quoted, texts_text}
use Rattle.rc_trace.specs.Starts.{start_text}

-- how a file is opened
abbrev pub mode_name : Mode → List ℕ
mode_name mode.Read = codes "read"
mode_name mode.Write = codes "write"
mode_name mode.Append = codes "append"

-- the shell's own descriptor by its number, or an open file
abbrev pub slot_text : Slot → List ℕ
slot_text (Own n) = decimal n
slot_text (To h) = codes "file " ++ decimal h.0

-- the three descriptors of a child
abbrev pub slots_text : Slots → List ℕ
slots_text slots =
    slot_text slots.input ++ (codes " " ++ (slot_text slots.output ++ (codes " " ++ slot_text slots.errors)))

-- the shell itself, or the path of a program
abbrev pub program_text : Option (List ℕ) → List ℕ
program_text None = codes "the shell"
program_text (Some path) = path_text path

-- arguments, an environment and descriptors
unfoldable pub handed_text : (args entries : List (List ℕ)) → Slots → List ℕ
handed_text args entries slots =
    texts_text args ++ (codes " " ++ (texts_text entries ++ (codes " " ++ slots_text slots)))

-- a program, and what it is handed
abbrev pub launch_text : Launch → List ℕ
launch_text launch =
    codes "start " ++ (program_text launch.program
    ++ (codes " " ++ handed_text launch.args launch.entries launch.slots))

-- a call with its arguments
abbrev pub call_text : Call → List ℕ
call_text (open_file path mode) = codes "open " ++ (path_text path ++ (codes " to " ++ mode_name mode))
call_text (here text) = codes "here " ++ quoted text
call_text make_pipe = codes "pipe"
call_text (close n) = codes "close " ++ decimal n
call_text (read n) = codes "read " ++ decimal n
call_text (write slot text) = codes "write " ++ (slot_text slot ++ (codes " " ++ bytes_text text))
call_text (start launch) = launch_text launch
call_text (wait n) = codes "wait " ++ decimal n
call_text (list_names path) = codes "list " ++ path_text path
call_text (probe path) = codes "probe " ++ path_text path
call_text (change_dir path) = codes "chdir " ++ path_text path

-- what a path names
abbrev pub kind_name : Kind → List ℕ
kind_name kind.Directory = codes "directory"
kind_name kind.Program = codes "program"
kind_name kind.Other = codes "other"

-- how a child ended
abbrev pub ending_text : Ending → List ℕ
ending_text (Code n) = codes "code " ++ decimal n
ending_text Signal = codes "signal"

-- why a call was refused
abbrev pub refusal_name : Fault → List ℕ
refusal_name fault.NotFound = codes "refused (not found)"
refusal_name fault.Denied = codes "refused (denied)"
refusal_name fault.Exists = codes "refused (exists)"
refusal_name fault.Broken = codes "refused (broken pipe)"
refusal_name fault.Full = codes "refused (full)"
refusal_name fault.Other = codes "refused (other)"
refusal_name fault.Halt = codes "halt"
refusal_name fault.NoMemory = codes "no-memory"

-- what a call was answered
abbrev pub answer_text : Answer → List ℕ
answer_text (file n) = codes "file " ++ decimal n
answer_text (pair r w) = codes "pipe " ++ (decimal r ++ (codes " " ++ decimal w))
answer_text done = codes "done"
answer_text (bytes text) = codes "text " ++ bytes_text text
answer_text (child n) = codes "child " ++ decimal n
answer_text (ended ending) = ending_text ending
answer_text (names all) = codes "names " ++ texts_text all
answer_text (found kind) = kind_name kind
answer_text (refused fault) = refusal_name fault

-- How launches are shown: with all that they hand over, or as a script would write them. Then entries of the
-- environment that are known aren't shown, and images of trees may be shown in place of their texts.
pub data Style : Type 0 where
  Whole : Style
  Brief : (known : List (List ℕ)) → (images : Bool) → Style

-- a launch as it is shown
abbrev pub shown_launch : Style → Launch → List ℕ
shown_launch Whole launch = launch_text launch
shown_launch (Brief known images) launch = start_text known images launch

-- a call as it is shown
abbrev pub shown_text : Style → Call → List ℕ
shown_text style (start launch) = shown_launch style launch
shown_text style call = call_text call

-- the line of a call with its answer, which begins with the name of the process
abbrev pub line_text : (process : List ℕ) → Style → Call → Answer → List ℕ
line_text process style call answer =
    process ++ (codes " " ++ (shown_text style call ++ (codes " > " ++ (answer_text answer ++ 10 ∷ []))))
