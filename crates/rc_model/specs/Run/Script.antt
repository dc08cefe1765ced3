-- A whole script: by its meaning, by the machine, and when the two agree.
use Rattle.std.specs.Prelude.{◌≡◌, ℕ, ◌≤◌, List, [], ◌∷◌, ◌++◌, Option}
use Rattle.rc_model.specs.Run.Calls.{Call, Answer, refused, Halt, Event, event, calls, answers, extend, plain}
use Rattle.rc_model.specs.Run.Acts.{waiting}
use Rattle.rc_model.specs.Run.Plans.{Plan, done_with, Played, Ends, Waits, Cut, play, calls_made}
use Rattle.rc_model.specs.Syntax.Tree.{Node, cmd}
use Rattle.rc_model.specs.Run.State.{State}
use Rattle.rc_model.specs.Run.Shell.{under}
use Rattle.rc_model.specs.Run.Meaning.{meaning}
use Rattle.rc_model.specs.Code.Machine.{exec, begin}

-- one wait for each child that is owed, and then the end
abbrev pub waits : State → List ℕ → Plan State
waits s owed = waiting owed (done_with s)

-- the meaning of a script as a plan, with at most n turns
abbrev pub whole : ℕ → Node cmd → State → Plan State
whole n c s = under (meaning n plain c s) (λ a s. done_with s) waits

-- the meaning of a script over these answers
abbrev pub script : ℕ → Node cmd → State → List Answer → Played State
script n c s given = play (whole n c s) given

-- at most m instructions of the code of a script over these answers
abbrev pub run : ℕ → Node cmd → State → List Answer → Played State
run m c s given = play (exec m (begin c s)) given

-- the first calls are a prefix of the others
pub record IsPrefix (front all : List Call) : Type 0 where
  pub rest : List Call
  pub is : all ≡ front ++ rest

-- one outcome is within another: it is the same, or it was cut after a prefix of the other's calls
abbrev pub Within : {X : Type 0} → Played X → Played X → Type 0
Within (Ends made x left) p = p ≡ Ends made x left
Within (Waits made) p = p ≡ Waits made
Within (Cut made) p = IsPrefix made (calls_made p)

-- The code of a script simulates its meaning, and the meaning simulates the code; with more turns or instructions both
-- only go on.
pub record Agrees (c : Node cmd) (s : State) (given : List Answer) : Type 0 where
  -- what some instructions do is within the meaning of some turns
  pub code_means : (m : ℕ) → (n : ℕ) × Within (run m c s given) (script n c s given)
  -- the meaning of some turns is within what some instructions do
  pub meaning_runs : (n : ℕ) → (m : ℕ) × Within (script n c s given) (run m c s given)
  -- with more instructions only a cut changes
  pub code_goes_on : (m k : ℕ) → m ≤ k → Within (run m c s given) (run k c s given)
  -- with more turns only a cut changes
  pub meaning_goes_on : (n k : ℕ) → n ≤ k → Within (script n c s given) (script k c s given)

-- ** what the trace of a run of a script records

-- between two records of a world there was a trace with this property
abbrev pub Recorded : Option (List Event) → Option (List Event) → (List Event → Type 0) → Type 0
Recorded before after P = (trace : List Event) × (after ≡ extend before trace) × P trace

-- the meaning ends in this state over the answers that were given, and uses all of them
abbrev pub EndsAsMeant : Node cmd → State → List Event → State → Type 0
EndsAsMeant c s trace t = (n : ℕ) × (script n c s (answers trace) ≡ Ends (calls trace) t [])

-- the last call was not answered, and the meaning waits there
pub record HaltsAsMeant (c : Node cmd) (s : State) (trace : List Event) : Type 0 where
  pub before : List Event
  pub call : Call
  pub unanswered : trace ≡ before ++ event call (refused Halt) ∷ []
  pub turns : ℕ
  pub waits : script turns c s (answers trace) ≡ Waits (calls trace)

-- the calls are a prefix of those of the meaning
abbrev pub IsBegunAsMeant : Node cmd → State → List Event → Type 0
IsBegunAsMeant c s trace = (n : ℕ) × IsPrefix (calls trace) (calls_made (script n c s (answers trace)))

-- exactly as many instructions of the code were run as the limit allows, and that was not its end
pub record StopsAtLimit (limit : ℕ) (c : Node cmd) (s : State) (trace : List Event) : Type 0 where
  pub ran : run limit c s (answers trace) ≡ Cut (calls trace)
  pub begun : IsBegunAsMeant c s trace
