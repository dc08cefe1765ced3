-- The rule that starts a shell, and what that rule hands to it.
use Rattle.std.specs.Prelude.{◌≡◌, ℕ, List, [], ◌∷◌, ◌++◌, Option, Some, None, true}
use Rattle.rc_model.specs.declared.call.Slots.{Slots}
use Rattle.rc_model.specs.Syntax.Tree.{Node, Many, cmd, stage}
use Rattle.rc_model.specs.Run.Calls.{Launch, Call, start, Answer, Event, fitting, answers, with_slot, to_file}
use Rattle.rc_model.specs.Run.Plans.{Plan, done_with, ask, cut}
use Rattle.rc_model.specs.Run.State.{State}
use Rattle.rc_model.specs.Run.Shell.{under}
use Rattle.rc_model.specs.Run.Acts.{LaunchedStages, stage_with, stages_from, from_pipe, subshell}
use Rattle.rc_model.specs.Run.Acts.{background_with, back_pipe}
use Rattle.rc_model.specs.Run.Script.{whole, IsBegunAsMeant}
use Rattle.rc_model.specs.Handed.Image.{is_fit, shell_launch}
use Rattle.rc_model.specs.Handed.Arguments.{reads, entry_state}
use Rattle.rc_model.specs.Handed.Proper.{IsProperTree, IsProper}

-- the rest of a plan after these answers
abbrev pub plan_after : {X : Type 0} → Plan X → List Answer → Plan X
plan_after (done_with x) given = done_with x
plan_after (ask c go) [] = ask c go
plan_after (ask c go) (a ∷ given) = plan_after (go (fitting c a)) given
plan_after cut given = cut

-- The plan begins with the start of a shell, by one of the four rules, for this command, in this state and with these
-- descriptors; then comes the rest of that rule, and what follows it.
pub data Starts (X : Type 0) (now : Plan X) (slots : Slots) (body : Node cmd) (s : State) : Type 0 where
  -- a stage of a pipeline, before these others: its output goes into the pipe that was made, its input comes from the
  -- one before
  a_stage : (outer : Slots) (slot : ℕ) (others : Many stage) (before : Option ℕ) (children : List ℕ)
      (read_end write_end : ℕ) (go : LaunchedStages → State → Plan X) (leave : State → List ℕ → Plan X) →
      now ≡ under (stage_with (stages_from outer others) outer body slot before children (Some (read_end, write_end)) s)
      go leave → slots ≡ with_slot (from_pipe before outer) slot (to_file write_end) → Starts X now slots body s
  -- `@`
  a_subshell : (go : Unit {0} → State → Plan X) (leave : State → List ℕ → Plan X) →
      now ≡ under (subshell slots body s) go leave → Starts X now slots body s
  -- `&`: it reads the file that was opened
  a_job : (outer : Slots) (file : ℕ) (go : Unit {0} → State → Plan X) (leave : State → List ℕ → Plan X) →
      now ≡ under (background_with outer body (Some file) s) go leave → slots ≡ with_slot outer 0 (to_file file) →
      Starts X now slots body s
  -- a backquote: its output goes into the pipe that was made
  a_backquote : (outer : Slots) (read_end write_end : ℕ) (go : List (List ℕ) → State → Plan X)
      (leave : State → List ℕ → Plan X) →
      now ≡ under (back_pipe outer body (Some (read_end, write_end)) s) go leave →
      slots ≡ with_slot outer 1 (to_file write_end) → Starts X now slots body s

-- a shell is handed the command and the state of the rule that starts it, within the limits, and reads them back
pub record IsHandedByRule (X : Type 0) (now : Plan X) (l : Launch) : Type 0 where
  pub body : Node cmd
  pub state : State
  pub starts : Starts X now l.slots body state
  pub is : l ≡ shell_launch l.slots body state
  pub fits : is_fit l ≡ true
  pub tree : IsProperTree body
  pub proper : IsProper state
  pub back : reads l.args l.entries ≡ Some (body, entry_state state)

-- this holds of the launch of a shell; for a program nothing is required
abbrev pub LaunchedByRule : (X : Type 0) → Plan X → Launch → Option (List ℕ) → Type 0
LaunchedByRule X now l None = IsHandedByRule X now l
LaunchedByRule X now l (Some path) = Unit {0}

-- if this call is the start of a shell, it holds of it
abbrev pub CalledByRule : (X : Type 0) → Plan X → Call → Type 0
CalledByRule X now (start l) = LaunchedByRule X now l l.program
CalledByRule X now _ = Unit {0}

-- Each shell that is started in a trace is handed the command and the state of the rule that the script has reached by
-- the answers so far, and reads them back.
abbrev pub StartsByRule : Node cmd → State → List Event → Type 0
StartsByRule c s trace = (before later : List Event) (e : Event) → trace ≡ before ++ e ∷ later →
    (turns : ℕ) × CalledByRule State (plan_after (whole turns c s) (answers before)) e.call

-- this holds of each trace that begins as the script means
abbrev pub TracesStartByRule : Type 0
TracesStartByRule =
    (c : Node cmd) (s : State) (trace : List Event) → IsProperTree c → IsProper s → IsBegunAsMeant c s trace →
    StartsByRule c s trace
