-- What the meaning and the machine share: the steps of commands.
use Rattle.std.specs.Prelude.{ℕ, zero, suc, length, ◌==◌, true, false, not, List, [], ◌∷◌, ◌++◌, Bool, ◌||◌}
use Rattle.std.specs.Prelude.{if◌then◌else◌, Option, Some, None, codes, nat_eq, nat_le, map, filter}
use Rattle.std.specs.List.{starts_with, join_with_byte, concat}
use Rattle.std.specs.Str.{bytes_eq}
use Rattle.std.specs.Str.Lossy.{utf8_lossy}
use Rattle.std.specs.Fmt.{decimal}
use Rattle.rc_model.specs.Syntax.Text.{spaced}
use Rattle.rc_model.specs.Syntax.Words.{Word, plain_words}
use Rattle.rc_model.specs.Run.Lists.{split}
use Rattle.rc_model.specs.Run.Calls.{Mode, Read, to_file, Slots, with_slot, Kind, Program, Ending, Code, Signal, Launch}
use Rattle.rc_model.specs.Run.Calls.{open_file, here, make_pipe, close, read, start, wait, probe, as_file}
use Rattle.rc_model.specs.Run.Calls.{as_pair, as_bytes, as_kind, as_child, as_ending}
use Rattle.rc_model.specs.Syntax.Tree.{Node, Many, cmd, stage, piece, none, more, Stage, Text, Name}
use Rattle.rc_model.specs.Run.State.{State, value_of, set_value, dollar_value, is_readable}
use Rattle.rc_model.specs.Run.State.{with_status, add_child}
use Rattle.rc_model.specs.Run.Shell.{Shell, ◌>>=◌, ◌>>◌, pure, call, say, get, change}
use Rattle.rc_model.specs.Handed.Image.{program_launch, shell_launch, is_fit}
pub use Rattle.rc_model.specs.Run.Values.{set_status, report, runtime_error, fails, bad_name}
pub use Rattle.rc_model.specs.Run.Values.{closing, waiting, close_end}
pub use Rattle.rc_model.specs.Run.Values.{check, one_name}
pub use Rattle.rc_model.specs.Run.Values.{variable, value, value_words, count_words, flat_words, selected_words}
pub use Rattle.rc_model.specs.Run.Values.{joined_lists, concat_words, match_status, define_each}
use Rattle.rc_model.specs.declared.limits.TheConstants.{LONGEST_OUTPUT, LONGEST_SCRIPT}

-- ** redirections

-- the words of the runtime error for a name that cannot be opened
abbrev pub cannot_open : List ℕ → List ℕ
cannot_open name = codes "cannot open " ++ name

-- the words of the runtime error for a redirection that doesn't have exactly one word
abbrev pub not_one_word : List ℕ
not_one_word = codes "redirection needs one word"

-- the name of a here document in a report
abbrev pub here_name : List ℕ
here_name = codes "here document"

-- a file that was opened
abbrev pub opened : Slots → List ℕ → Option ℕ → Shell ℕ
opened slots name (Some h) = pure h
opened slots name None = fails slots (cannot_open name)

-- opens the one file that a list of words names
abbrev pub open_one : Slots → Mode → List (List ℕ) → Shell ℕ
open_one slots mode [] = fails slots not_one_word
open_one slots mode (name ∷ []) = do
  a ← call (open_file name mode)
  opened slots name (as_file a)
open_one slots mode (name ∷ other ∷ others) = fails slots not_one_word

-- the text of a here document: a bad name stands for nothing
abbrev pub here_text : State → Many piece → List ℕ
here_text s none = []
here_text s (more (Text text) pieces) = text ++ here_text s pieces
here_text s (more (Name name) pieces) =
    spaced (if is_readable name then dollar_value s name else []) ++ here_text s pieces

-- a here document is passed on as a file, with the values of its names
abbrev pub open_here : Slots → Many piece → Shell ℕ
open_here slots pieces = do
  s ← get
  a ← call (here (here_text s pieces))
  opened slots here_name (as_file a)

-- ** programs and children

-- whether a name is a path, which is used as it is
abbrev pub is_path : List ℕ → Bool
is_path name =
    starts_with nat_eq name (codes "/") || starts_with nat_eq name (codes "./") || starts_with nat_eq name (codes "../")

-- the path of a program or a file of commands in a directory
abbrev pub candidate : List ℕ → List ℕ → List ℕ
candidate dir name = if (length dir == 0) || bytes_eq dir (codes ".") then codes "./" ++ name else dir ++ 47 ∷ name

-- the paths at which a name is looked up: the empty name is never found
abbrev pub candidates : State → List ℕ → List (List ℕ)
candidates s name =
    if length name == 0 then []
    else (if is_path name then name ∷ [] else map (λ d. candidate d name) (value_of s (codes "path")))

-- whether this kind of file is a program
abbrev pub is_program : Option Kind → Bool
is_program (Some Program) = true
is_program _ = false

-- the first path that is a program
abbrev pub first_program : List (List ℕ) → Shell (Option (List ℕ))
first_program [] = pure None
first_program (path ∷ paths) = do
  a ← call (probe path)
  if is_program (as_kind a) then pure (Some path) else first_program paths

-- finds a program by its name; a name that is a path is not looked up
abbrev pub find_program : List ℕ → Shell (Option (List ℕ))
find_program name = if is_path name then pure (Some name) else (λ s. first_program (candidates s name) s)

-- the status of a child, by how it ended
abbrev pub ending_status : Option Ending → List ℕ
ending_status None = codes "cannot wait"
ending_status (Some (Code zero)) = []
ending_status (Some (Code (suc n))) = decimal (suc n)
ending_status (Some Signal) = codes "signal"

-- waits for a child and returns its status
abbrev pub waited : ℕ → Shell (List ℕ)
waited n = do
  a ← call (wait n)
  pure (ending_status (as_ending a))

-- waits for each child in order and returns their statuses
abbrev pub wait_each : List ℕ → Shell (List (List ℕ))
wait_each [] = pure []
wait_each (n ∷ ns) = do
  first ← waited n
  others ← wait_each ns
  pure (first ∷ others)

-- the result of a start: a child, or why there is none
pub data Started : Type 0 where
  Child : ℕ → Started
  NoChild : (why : List ℕ) → Started

-- the result of a start, by the number of the child, if there is one
abbrev pub as_started : Option ℕ → Started
as_started (Some n) = Child n
as_started None = NoChild (codes "cannot start")

-- asks the world for a start
abbrev pub ask_start : Launch → Shell Started
ask_start l = do
  a ← call (start l)
  pure (as_started (as_child a))

-- starts a launch if it fits within the limits
abbrev pub start_if_fit : Launch → Shell Started
start_if_fit l = if is_fit l then ask_start l else pure (NoChild (codes "too large"))

-- starts a subshell for a command
abbrev pub start_shell : Slots → Node cmd → Shell Started
start_shell slots body = do
  s ← get
  start_if_fit (shell_launch slots body s)

-- reports that a program cannot be run, and why
abbrev pub refuse : Slots → List ℕ → List ℕ → Shell (Unit {0})
refuse slots name why = do
  report slots (name ++ codes ": " ++ why)
  set_status why

-- waits for a program that was started
abbrev pub wait_started : Slots → List ℕ → Started → Shell (Unit {0})
wait_started slots name (NoChild why) = refuse slots name why
wait_started slots name (Child n) = do
  status ← waited n
  set_status status

-- starts a program at the path that was found, if there is one
abbrev pub run_found : Slots → List ℕ → List (List ℕ) → Option (List ℕ) → Shell (Unit {0})
run_found slots name args None = refuse slots name (codes "not found")
run_found slots name args (Some path) = do
  s ← get
  child ← start_if_fit (program_launch slots path args s)
  wait_started slots name child

-- looks for a program, starts it and waits for it
abbrev pub run_program : Slots → List ℕ → List (List ℕ) → Shell (Unit {0})
run_program slots name args = do
  path ← find_program name
  run_found slots name args path

-- waits for a subshell that was started, and takes over its status
abbrev pub wait_subshell : Started → Shell (Unit {0})
wait_subshell (NoChild why) = set_status why
wait_subshell (Child n) = do
  status ← waited n
  set_status status

-- `@ cmd`
abbrev pub subshell : Slots → Node cmd → Shell (Unit {0})
subshell slots body = do
  child ← start_shell slots body
  wait_subshell child

-- puts a child that was started on the list, and its number into `$apid`
abbrev pub kept_child : Started → Shell (Unit {0})
kept_child (NoChild why) = set_status why
kept_child (Child n) = change (λ s. set_value (add_child s n) (codes "apid") (decimal n ∷ []))

-- starts a command with this open file as its standard input
abbrev pub background_with : Slots → Node cmd → Option ℕ → Shell (Unit {0})
background_with slots body None = set_status (codes "cannot open")
background_with slots body (Some h) = do
  child ← start_shell (with_slot slots 0 (to_file h)) body
  say (close h)
  kept_child child

-- `cmd &`
abbrev pub background : Slots → Node cmd → Shell (Unit {0})
background slots body = do
  a ← call (open_file (codes "/dev/null") Read)
  background_with slots body (as_file a)

-- ** pipelines

-- all stages but the last after their starts: either they run, and the last one reads from this end, or one could not
-- be started, for this reason. The children are still to be waited for
pub data LaunchedStages : Type 0 where
  Launched : (read_end : Option ℕ) (children : List ℕ) → LaunchedStages
  NotLaunched : (children why : List ℕ) → LaunchedStages

-- all stages but the last after their starts: the read end before the last, and the children; or one was refused
pub data StartedStages : Type 0 where
  Running : (read_end : Option ℕ) (children : List ℕ) → StartedStages
  Refused : StartedStages

-- statuses in the order of their stages
abbrev pub stages_status : List (List ℕ) → List ℕ
stages_status statuses = join_with_byte 124 statuses

-- a refusal: the read end before it is closed, and no further stage is started
abbrev pub no_stages : Option ℕ → List ℕ → List ℕ → Shell LaunchedStages
no_stages before children why = do
  close_end before
  pure (NotLaunched children why)

-- the slots with the read end of the pipe before
abbrev pub from_pipe : Option ℕ → Slots → Slots
from_pipe None slots = slots
from_pipe (Some h) slots = with_slot slots 0 (to_file h)

-- once a stage is started, closes its write end and the read end before it; a refusal ends the pipeline
abbrev pub next_stage : (Option ℕ → List ℕ → Shell LaunchedStages) → Option ℕ → List ℕ → ℕ → ℕ → Started →
    Shell LaunchedStages
next_stage go before children read_end write_end (Child n) = do
  say (close write_end)
  close_end before
  go (Some read_end) (children ++ n ∷ [])
next_stage go before children read_end write_end (NoChild why) = do
  say (close write_end)
  say (close read_end)
  no_stages before children why

-- starts a stage with a new pipe after it
abbrev pub stage_with : (Option ℕ → List ℕ → Shell LaunchedStages) → Slots → Node cmd → ℕ → Option ℕ → List ℕ →
    Option (ℕ × ℕ) → Shell LaunchedStages
stage_with go slots body slot before children None = no_stages before children (codes "cannot pipe")
stage_with go slots body slot before children (Some (read_end, write_end)) = do
  child ← start_shell (with_slot (from_pipe before slots) slot (to_file write_end)) body
  next_stage go before children read_end write_end child

-- starts these stages, given the read end before them and the children so far
abbrev pub stages_from : Slots → Many stage → Option ℕ → List ℕ → Shell LaunchedStages
stages_from slots none before children = pure (Launched before children)
stages_from slots (more (Stage body slot) stages) before children = do
  a ← call make_pipe
  stage_with (stages_from slots stages) slots body slot before children (as_pair a)

-- each stage of a pipeline but the last is started with a pipe to the next, until one is refused
abbrev pub launch_stages : Slots → Many stage → Shell LaunchedStages
launch_stages slots stages = stages_from slots stages None []

-- after a refusal, waits for the children that were started; the status is made of theirs and the reason
abbrev pub settled : LaunchedStages → Shell StartedStages
settled (Launched read_end children) = pure (Running read_end children)
settled (NotLaunched children why) = do
  statuses ← wait_each children
  set_status (stages_status (statuses ++ why ∷ []))
  pure Refused

-- starts all stages of a pipeline but the last, unless one is refused, which ends the pipeline
abbrev pub start_stages : Slots → Many stage → Shell StartedStages
start_stages slots stages = do
  launched ← launch_stages slots stages
  settled launched

-- ends a pipeline whose last stage is done
abbrev pub end_stages : Option ℕ → List ℕ → Shell (Unit {0})
end_stages read_end children = do
  close_end read_end
  statuses ← wait_each children
  change (λ s. with_status s (stages_status (statuses ++ s.status ∷ [])))

-- ** reading

-- the bytes read, and why reading stopped before the end, if it did
pub record Got : Type 0 where
  pub text : List ℕ
  pub why : Option (List ℕ)

-- the bytes and the reason as such a record
abbrev pub got_all : List ℕ → Option (List ℕ) → Got
got_all text why = record { text = text; why = why }

-- adds the bytes of a read and reads on, unless this was the end, a refusal or too much
abbrev pub read_on : (List ℕ → Shell Got) → ℕ → List ℕ → Option (List ℕ) → Shell Got
read_on again most text None = pure (got_all text (Some (codes "cannot read")))
read_on again most text (Some []) = pure (got_all text None)
read_on again most text (Some (b ∷ bs)) =
    if nat_le (length (text ++ b ∷ bs)) most then again (text ++ b ∷ bs)
    else pure (got_all (text ++ b ∷ bs) (Some (codes "too large")))

-- reads up to the empty answer; each read but the last returns at least one byte, so at most `most` + 1 are made
abbrev pub reading : ℕ → ℕ → ℕ → List ℕ → Shell Got
reading zero most h text = pure (got_all text (Some (codes "too large")))
reading (suc n) most h text = do
  a ← call (read h)
  read_on (reading n most h) most text (as_bytes a)

-- the longest output of a backquote, in bytes
unfoldable pub longest_output : ℕ
longest_output = LONGEST_OUTPUT

-- the longest file of commands, in bytes
unfoldable pub longest_file : ℕ
longest_file = LONGEST_SCRIPT

-- reads an open file to its end, unless there are more bytes than this
abbrev pub read_all : ℕ → ℕ → Shell Got
read_all most h = reading (suc most) most h []

-- ** backquotes

-- output as text: bytes 0 are dropped, and what is not UTF-8 becomes U+FFFD
abbrev pub output_text : List ℕ → List ℕ
output_text bytes = utf8_lossy (filter (λ b. not (b == 0)) bytes)

-- output as members, split at the characters of `$ifs`
abbrev pub output_members : State → List ℕ → List (List ℕ)
output_members s bytes = split (output_text bytes) (concat (value_of s (codes "ifs")))

-- the status of a backquote: why its reading stopped, else that of the child
abbrev pub back_status : Option (List ℕ) → List ℕ → List ℕ
back_status None status = status
back_status (Some why) status = why

-- reads the output of a backquote, and waits for its child
abbrev pub back_child : ℕ → ℕ → Started → Shell (List (List ℕ))
back_child read_end write_end (NoChild why) = do
  say (close write_end)
  say (close read_end)
  set_status why
  pure []
back_child read_end write_end (Child n) = do
  say (close write_end)
  out ← read_all longest_output read_end
  say (close read_end)
  status ← waited n
  set_status (back_status out.why status)
  s ← get
  pure (output_members s out.text)

-- starts the child of a backquote with a pipe for its output
abbrev pub back_pipe : Slots → Node cmd → Option (ℕ × ℕ) → Shell (List (List ℕ))
back_pipe slots body None = do
  set_status (codes "cannot pipe")
  pure []
back_pipe slots body (Some (read_end, write_end)) = do
  child ← start_shell (with_slot slots 1 (to_file write_end)) body
  back_child read_end write_end child

-- `` `{list} ``: the members of the output
abbrev pub backquote : Slots → Node cmd → Shell (List (List ℕ))
backquote slots body = do
  a ← call make_pipe
  back_pipe slots body (as_pair a)

-- the same as words without marks
abbrev pub back_words : Slots → Node cmd → Shell (List Word)
back_words slots body = do
  members ← backquote slots body
  pure (plain_words members)
