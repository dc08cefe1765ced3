-- What is handed over reads back.
use Rattle.std.specs.Prelude.{◌≡◌, ℕ, List, [], ◌∷◌, Bool, Option, Some, None, Ok}
use Rattle.rc_model.specs.Syntax.Tree.{Node, cmd}
use Rattle.rc_model.specs.Syntax.Accepted.{IsAccepted}
use Rattle.rc_model.specs.Run.Calls.{Launch, Call, start, Answer, Event, calls}
use Rattle.rc_model.specs.Run.Plans.{Ends, calls_made}
use Rattle.rc_model.specs.Run.State.{State}
use Rattle.rc_model.specs.Run.Script.{script, EndsAsMeant, IsBegunAsMeant}
use Rattle.rc_model.specs.Handed.Environment.{read_state}
use Rattle.rc_model.specs.Handed.Arguments.{handed, entry_state, read_image, reads}
use Rattle.rc_model.specs.Handed.Proper.{IsProperTree, IsProper}
use Rattle.rc_model.specs.Handed.Handed.{IsHanded}

-- the arguments and entries that are handed over read back as the tree and the state of the subshell
abbrev pub HandedReadsBack : Type 0
HandedReadsBack = (c : Node cmd) (s : State) (h : List (List ℕ) × List (List ℕ)) → IsProperTree c → IsProper s →
    handed c s ≡ Some h → reads h.0 h.1 ≡ Some (c, entry_state s)

-- whatever entries are read, the state is proper
abbrev pub ReadsProper : Type 0
ReadsProper = (own : Bool) (args entries : List (List ℕ)) (s : State) → read_state own args entries ≡ Ok s → IsProper s

-- and whatever words are read with them, the tree is proper, and so is the state
abbrev pub ReadsScripts : Type 0
ReadsScripts =
    (strict : Bool) (words entries : List (List ℕ)) (x : Node cmd × State) → read_image strict words entries ≡ Ok x →
    IsProperTree x.0 × IsProper x.1

-- ** the shells that a script starts

-- a launch hands over a proper tree and a proper state, and reads back as that tree and the state in which a subshell
-- begins
pub record IsReadBack (l : Launch) : Type 0 where
  pub handed : IsHanded l
  pub tree : IsProperTree handed.tree
  pub state : IsProper handed.state
  pub back : reads l.args l.entries ≡ Some (handed.tree, entry_state handed.state)

-- the launch of a shell reads back this way; for a program nothing is required
abbrev pub ReadBackBy : Option (List ℕ) → Launch → Type 0
ReadBackBy None l = IsReadBack l
ReadBackBy (Some path) l = Unit {0}

-- a shell that is started by this call reads back what it is handed
abbrev pub ReadsBack : Call → Type 0
ReadsBack (start l) = ReadBackBy l.program l
ReadsBack _ = Unit {0}

-- each shell that is started by these calls reads back what it is handed
abbrev pub AllReadBack : List Call → Type 0
AllReadBack [] = Unit {0}
AllReadBack (c ∷ cs) = ReadsBack c × AllReadBack cs

-- the tree of an accepted text is proper
abbrev pub AcceptedAreProper : Type 0
AcceptedAreProper = (text : List ℕ) (c : Node cmd) → IsAccepted text c → IsProperTree c

-- whatever the answers, each shell that a script starts reads back what it is handed
abbrev pub ScriptsReadBack : Type 0
ScriptsReadBack =
    (n : ℕ) (c : Node cmd) (s : State) (given : List Answer) → IsProperTree c → IsProper s →
    AllReadBack (calls_made (script n c s given))

-- and the state at its end is proper
abbrev pub EndsAreProper : Type 0
EndsAreProper =
    (n : ℕ) (c : Node cmd) (s t : State) (given left : List Answer) (made : List Call) → IsProperTree c → IsProper s →
    script n c s given ≡ Ends made t left → IsProper t

-- the shells started in a trace that begins as the script means read back what they are handed
abbrev pub TracesReadBack : Type 0
TracesReadBack =
    (c : Node cmd) (s : State) (trace : List Event) → IsProperTree c → IsProper s → IsBegunAsMeant c s trace →
    AllReadBack (calls trace)

-- if a trace ends as the script means, the state at its end is proper
abbrev pub TracesEndProper : Type 0
TracesEndProper =
    (c : Node cmd) (s t : State) (trace : List Event) → IsProperTree c → IsProper s → EndsAsMeant c s trace t →
    IsProper t
