-- A family of shells, each with its own answers, in any interleaving.
use Rattle.std.specs.Prelude.{◌≡◌, ◌≢◌, ℕ, zero, suc, ◌+◌, ◌≤◌, ◌<◌, List, [], ◌∷◌, ◌++◌, Option, Some, None}
use Rattle.std.specs.Prelude.{unwrap_or, ◌⊎◌}
use Rattle.rc_model.specs.Run.Calls.{Slot, Own, To, slot_of, Launch, Call, Answer, start, wait, read, child, Event}
use Rattle.rc_model.specs.Run.Calls.{event, calls, answers}
use Rattle.rc_model.specs.Run.Plans.{IsAnswered, Waits}
use Rattle.rc_model.specs.Syntax.Tree.{Node, cmd, Empty}
use Rattle.rc_model.specs.Run.State.{State, new_state}
use Rattle.rc_model.specs.Run.Script.{script, EndsAsMeant}
use Rattle.rc_model.specs.Handed.Arguments.{entry_state, reads}
use Rattle.rc_model.specs.Handed.Proper.{IsProperTree, IsProper}
use Rattle.rc_model.specs.Handed.Handed.{IsHanded}
use Rattle.rc_model.specs.Family.Accounts.{Thing, a_file, read_end, write_end, Account, one, put, account, at_start}
use Rattle.rc_model.specs.Family.Accounts.{IsFresh, NothingLost, NothingLeft}

-- the file of a descriptor: an end of the pipe that a process, its maker, made at a place of its trace, or anything
-- else
pub data Stands : Type 0 where
  elsewhere : Stands
  reads_from : (maker place : ℕ) → Stands
  writes_to : (maker place : ℕ) → Stands

-- a process: the process that started it and the number that this one has for it, the files of its descriptors, the
-- script and state that it was handed, and its trace
pub record Process : Type 0 where
  pub origin : Option (ℕ × ℕ)
  pub stands : ℕ → Stands
  pub tree : Node cmd
  pub state : State
  pub trace : List Event

-- the processes, by number, in the order in which they were started
pub record Family : Type 0 where
  pub count : ℕ
  pub at : ℕ → Process

-- an event: a process, its call and the answer to it
pub record FamilyEvent : Type 0 where
  pub at : ℕ
  pub call : Call
  pub answer : Answer

-- the account of a process
abbrev pub holding : Process → Account
holding p = account (at_start p.state) p.trace

-- its next call, which waits for an answer
abbrev pub IsPending : Process → Call → Type 0
IsPending p c = (n : ℕ) × (script n p.tree p.state (answers p.trace) ≡ Waits (calls p.trace ++ c ∷ []))

-- its script has ended
abbrev pub HasEnded : Process → Type 0
HasEnded p = (t : State) × EndsAsMeant p.tree p.state p.trace t

-- its calls are those of the meaning of its script over its own answers, and it waits for an answer or has ended
abbrev pub GoesAsMeant : Process → Type 0
GoesAsMeant p = ((c : Call) × IsPending p c) ⊎ HasEnded p

-- the end of a pipe that an open file of process k is
abbrev pub end_of : ℕ → Thing → Stands
end_of k a_file = elsewhere
end_of k (read_end place) = reads_from k place
end_of k (write_end place) = writes_to k place

-- the file in a slot of a launch of process k
abbrev pub stood_for : ℕ → Process → Slot → Stands
stood_for k p (Own i) = p.stands i
stood_for k p (To h) = end_of k ((holding p).things h.0)

-- a shell that was started, with the number of the child
abbrev pub shell_of : Option (List ℕ) → Launch → ℕ → Option (Launch × ℕ)
shell_of None l n = Some (l, n)
shell_of (Some path) l n = None

-- the shell that a call started, if its answer is a child
abbrev pub shell_started : Call → Answer → Option (Launch × ℕ)
shell_started (start l) (child n) = shell_of l.program l n
shell_started _ _ = None

-- a process with one more event
abbrev pub recorded : Process → Call → Answer → Process
recorded p c x = record p { trace = p.trace ++ event c x ∷ [] }

-- adds a step to the trace of its process
abbrev pub with_trace : Family → FamilyEvent → Family
with_trace f e = record f { at = put f.at e.at (recorded (f.at e.at) e.call e.answer) }

-- the process of a step and the number of the shell that it started, if any
abbrev pub born : FamilyEvent → Option (Launch × ℕ) → List (ℕ × ℕ)
born e None = []
born e (Some (l, n)) = (e.at, n) ∷ []

-- which process started which child, in order
abbrev pub starts : List FamilyEvent → List (ℕ × ℕ)
starts [] = []
starts (e ∷ es) = born e (shell_started e.call e.answer) ++ starts es

-- the pending call of a process of the family is answered
pub record IsPossible (f : Family) (e : FamilyEvent) : Type 0 where
  pub in_family : e.at < f.count
  pub pending : IsPending (f.at e.at) e.call
  pub answered : IsAnswered e.call e.answer

-- `reads` is the script and the state that the shell of a launch reads
module _ (reads : Launch → Node cmd × State) where
  -- the child of process k
  abbrev pub child_process : ℕ → Process → Launch → ℕ → Process
  child_process k p l n =
      record {
        origin = Some (k, n);
        stands = λ i. stood_for k p (slot_of l.slots i);
        tree = (reads l).0;
        state = (reads l).1;
        trace = [];
      }

  -- adds the shell that was started, if any, as the last process of the family
  abbrev pub with_child : Family → ℕ → Process → Option (Launch × ℕ) → Family
  with_child f k p None = f
  with_child f k p (Some (l, n)) = record { count = suc f.count; at = put f.at f.count (child_process k p l n) }

  -- an event changes its process alone; a shell that it starts is added after the others
  abbrev pub stepped : Family → FamilyEvent → Family
  stepped f e = with_child (with_trace f e) e.at (f.at e.at) (shell_started e.call e.answer)

  -- the family after these steps
  abbrev pub family : Family → List FamilyEvent → Family
  family f [] = f
  family f (e ∷ es) = family (stepped f e) es

  -- a family of process 0 alone
  abbrev pub first : Node cmd → State → Family
  first c s =
      record { count = 1; at = λ k. record { origin = None; stands = λ i. elsewhere; tree = c; state = s; trace = [] } }

  -- each of these steps answers a pending call of the family that the steps before it make
  abbrev pub ArePossible : Family → List FamilyEvent → Type 0
  ArePossible f [] = Unit {0}
  ArePossible f (e ∷ es) = IsPossible f e × ArePossible (stepped f e) es

-- this holds of each process of a family
abbrev pub EachOf : (Process → Type 0) → Family → Type 0
EachOf P f = (j : ℕ) → j < f.count → P (f.at j)

-- the answers of each process are fresh
abbrev pub AreFresh : Family → Type 0
AreFresh f = EachOf (λ p. IsFresh p.state p.trace) f

-- a process was started by another
abbrev pub IsChildOf : Family → ℕ → ℕ → Type 0
IsChildOf f j k = (n : ℕ) × ((f.at j).origin ≡ Some (k, n))

-- a process is the other, or was started by it or by one of its descendants
pub data Descends (f : Family) : ℕ → ℕ → Type 0 where
  itself : {j : ℕ} → Descends f j j
  started_by : {j k m : ℕ} → IsChildOf f j k → Descends f k m → Descends f j m

-- an open file of a process is the write end of the pipe that it made at a place
abbrev pub HoldsWrite : Process → ℕ → Type 0
HoldsWrite p place = (h : ℕ) × (1 ≤ (holding p).files h) × ((holding p).things h ≡ write_end place)

-- a descriptor of a process is a write end
abbrev pub WritesTo : Process → ℕ → ℕ → Type 0
WritesTo p maker place = (i : ℕ) × (p.stands i ≡ writes_to maker place)

-- a process has the write end of a pipe
abbrev pub HasWrite : Family → ℕ → ℕ → ℕ → Type 0
HasWrite f j maker place = ((j ≡ maker) × HoldsWrite (f.at j) place) ⊎ WritesTo (f.at j) maker place

-- a maker handed a write end to this child
abbrev pub WasHanded : Family → ℕ → ℕ → ℕ → Type 0
WasHanded f j maker place = IsChildOf f j maker × WritesTo (f.at j) maker place

-- the write ends of a family
pub record WriteEnds (f : Family) : Type 0 where
  -- a maker hands each write end to at most one child
  pub one_child : (maker place i j : ℕ) → i < f.count → j < f.count → WasHanded f i maker place →
      WasHanded f j maker place → i ≡ j
  -- once the maker has closed it, every shell that has it is that child or one of its descendants
  pub descends : (maker place j : ℕ) → j < f.count → (HoldsWrite (f.at maker) place → ⊥) → HasWrite f j maker place
      → (i : ℕ) × (i < f.count) × WasHanded f i maker place × Descends f j i

-- what a call waits for: the end of a child, or a pipe without writers
abbrev pub WaitsBy : Family → ℕ → Call → ℕ → Type 0
WaitsBy f k (wait n) j = (f.at j).origin ≡ Some (k, n)
WaitsBy f k (read h) j = (place : ℕ) × ((holding (f.at k)).things h ≡ read_end place) × HasWrite f j k place
WaitsBy f k _ j = ⊥

-- process k waits for process j, by its pending call
pub record WaitsFor (f : Family) (k j : ℕ) : Type 0 where
  pub waiter : k < f.count
  pub other : j < f.count
  pub call : Call
  pub pending : IsPending (f.at k) call
  pub waits : WaitsBy f k call j

-- a process waits for another, directly or through others
pub data WaitsLong (f : Family) : ℕ → ℕ → Type 0 where
  directly : {k j : ℕ} → WaitsFor f k j → WaitsLong f k j
  through : {k j m : ℕ} → WaitsFor f k j → WaitsLong f j m → WaitsLong f k m

-- no shells wait for each other in a cycle
pub record NoRing (f : Family) : Type 0 where
  -- a shell waits only for shells with greater numbers
  pub for_greater : (k j : ℕ) → WaitsFor f k j → k < j
  -- so none waits for itself, through however many others
  pub not_itself : (k : ℕ) → WaitsLong f k k → ⊥
  -- and the last that has not ended waits for none that has not ended
  pub greatest : (k : ℕ) → ((j : ℕ) → j < f.count → k < j → HasEnded (f.at j)) → (j : ℕ) → WaitsFor f k j →
      HasEnded (f.at j)

-- how many shells were started, one or none
abbrev pub count_started : Option (Launch × ℕ) → ℕ
count_started None = 0
count_started (Some o) = 1

-- how many shells these events started
abbrev pub shells_started : List Event → ℕ
shells_started [] = 0
shells_started (e ∷ es) = count_started (shell_started e.call e.answer) + shells_started es

-- 1 if a process of this origin was started by process k, else 0
abbrev pub count_child : ℕ → Option (ℕ × ℕ) → ℕ
count_child k None = 0
count_child k (Some o) = one o.0 k

-- how many of the first n processes were started by process k
abbrev pub children_below : Family → ℕ → ℕ → ℕ
children_below f k zero = 0
children_below f k (suc n) = count_child k (f.at n).origin + children_below f k n

-- ** the laws of a family

-- the processes of a list of origins follow each other from this number on
abbrev pub StandFrom : Family → ℕ → List (ℕ × ℕ) → Type 0
StandFrom f j [] = f.count ≡ j
StandFrom f j (o ∷ os) = ((f.at j).origin ≡ Some o) × StandFrom f (suc j) os

module _ (reads : Launch → Node cmd × State) where
  -- an event is added to the trace of its process, changes no other, and adds at most one process
  pub record OneAtATime (f : Family) (e : FamilyEvent) : Type 0 where
    pub own_trace : ((stepped reads f e).at e.at).trace ≡ (f.at e.at).trace ++ event e.call e.answer ∷ []
    pub others : (j : ℕ) → j < f.count → j ≢ e.at → (stepped reads f e).at j ≡ f.at j
    pub no_fewer : f.count ≤ (stepped reads f e).count
    pub one_more : (stepped reads f e).count ≤ suc f.count

  -- one process for each start of a shell that was answered by a child, in their order, and process 0
  abbrev pub OnePerStart : Node cmd → State → List FamilyEvent → Type 0
  OnePerStart c s es =
      ((family reads (first reads c s) es).at 0).origin ≡ None ×
      StandFrom (family reads (first reads c s) es) 1 (starts es)

  -- a process was started by an earlier one, whose trace has its launch, and was handed what is read from that
  pub record WasStarted (f : Family) (j k : ℕ) : Type 0 where
    pub earlier : k < j
    pub launch : Launch
    pub number : ℕ
    pub before : List Event
    pub later : List Event
    pub shell : launch.program ≡ None
    pub in_trace : (f.at k).trace ≡ before ++ event (start launch) (child number) ∷ later
    pub origin : (f.at j).origin ≡ Some (k, number)
    -- by this start and no other: as many starts of shells come before it as its maker has children before it
    pub the_start : shells_started before ≡ children_below f k j
    pub tree : (f.at j).tree ≡ (reads launch).0
    pub state : (f.at j).state ≡ (reads launch).1

  -- process 0 was handed the first script and state, any other what is read from its launch
  abbrev pub HandedSo : Node cmd → State → Family → ℕ → Type 0
  HandedSo c s f zero = ((f.at 0).tree ≡ c) × ((f.at 0).state ≡ s)
  HandedSo c s f (suc j) = (k : ℕ) × WasStarted f (suc j) k

  -- a family made by these events, in which each process goes as its script means, over fresh answers
  pub record IsFamily (c : Node cmd) (s : State) (es : List FamilyEvent) : Type 0 where
    pub possible : ArePossible reads (first reads c s) es
    pub as_meant : EachOf GoesAsMeant (family reads (first reads c s) es)
    pub fresh : AreFresh (family reads (first reads c s) es)

  -- each process began with what it was handed, none loses anything, and no shells wait for each other in a cycle
  pub record Sane (c : Node cmd) (s : State) (f : Family) : Type 0 where
    pub handed : (j : ℕ) → j < f.count → HandedSo c s f j
    pub launched : (j k : ℕ) → j < f.count → (w : WasStarted f j k) → IsHanded w.launch
    pub nothing_lost : EachOf (λ p. NothingLost p.state p.trace) f
    pub nothing_left : EachOf (λ p. (t : State) → EndsAsMeant p.tree p.state p.trace t →
        NothingLeft p.state p.trace t) f
    pub write_ends : WriteEnds f
    pub no_ring : NoRing f

-- ** shells that read what they are handed

-- the script and the state that a shell reads; one that can't read them does nothing
abbrev pub read_launch : Launch → Node cmd × State
read_launch l = unwrap_or (reads l.args l.entries) (Empty, new_state)

-- process j was started by process k, and began with the tree that k handed over and the entry state of the state that
-- k handed over
pub record BeganAsHanded (f : Family) (j k : ℕ) : Type 0 where
  pub started : WasStarted read_launch f j k
  pub handed : IsHanded started.launch
  pub tree : (f.at j).tree ≡ handed.tree
  pub state : (f.at j).state ≡ entry_state handed.state

-- each process but process 0 began with what the process that started it handed over
abbrev pub BeganSo : Family → ℕ → Type 0
BeganSo f zero = Unit {0}
BeganSo f (suc j) = (k : ℕ) × BeganAsHanded f (suc j) k

-- each process began with what it was handed, which is a proper tree and a proper state
abbrev pub AllRead : Family → Type 0
AllRead f = (j : ℕ) → j < f.count → IsProperTree (f.at j).tree × IsProper (f.at j).state × BeganSo f j

-- this holds of every family of shells that read what they are handed, whatever the answers are
abbrev pub FamiliesRead : Type 0
FamiliesRead = (c : Node cmd) (s : State) (es : List FamilyEvent) → IsProperTree c → IsProper s →
    ArePossible read_launch (first read_launch c s) es →
    EachOf GoesAsMeant (family read_launch (first read_launch c s) es) →
    AllRead (family read_launch (first read_launch c s) es)
