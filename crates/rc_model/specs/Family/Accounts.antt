-- What a shell holds and owes after a trace.
use Rattle.std.specs.Prelude.{◌≡◌, ◌≢◌, ℕ, suc, ◌+◌, ◌-◌, ◌≤◌, ◌<◌, List, [], ◌∷◌, Option, Some, None, nat_eq}
use Rattle.std.specs.Prelude.{if◌then◌else◌, ◌⊎◌, Bool, true, false}
use Rattle.rc_model.specs.Run.Calls.{Slot, Own, To, Slots, Call, Answer, open_file, here, make_pipe, close, read, write}
use Rattle.rc_model.specs.Run.Calls.{start, wait, as_file, as_pair, as_child, Event, fitting, is_halt}
use Rattle.rc_model.specs.Run.Plans.{Plan, ask}
use Rattle.rc_model.specs.Syntax.Tree.{Node, cmd}
use Rattle.rc_model.specs.Run.State.{State}
use Rattle.rc_model.specs.Run.Script.{whole}
use Rattle.rc_model.specs.Handed.Handed.{HandsOver}

-- the kind of an open file: one that was opened, or an end of the pipe that was made at this place of the trace
pub data Thing : Type 0 where
  a_file : Thing
  read_end : (pipe : ℕ) → Thing
  write_end : (pipe : ℕ) → Thing

-- the progress of a shell with its newest pipe: it was just made; a shell was started with its write end; that end was
-- closed
pub data Due : Type 0 where
  free : Due
  made : (pipe write : ℕ) → Due
  used : (pipe write : ℕ) → (input : Slot) → Due
  passed : (pipe : ℕ) → (input : Slot) → Due

-- the account of a trace
pub record Account : Type 0 where
  -- the number of events so far
  pub place : ℕ
  -- how often a file is held, and its kind
  pub files : ℕ → ℕ
  pub things : ℕ → Thing
  -- how often a child is owed, and the pipe whose write end it was started for
  pub owed : ℕ → ℕ
  pub feeds : ℕ → Option ℕ
  -- the pipeline or backquote that a pipe is part of, by the place of its first pipe
  pub pipeline : ℕ → ℕ
  pub due : Due

-- the counts of one number: 1 at h, and 0 elsewhere
unfoldable pub one : ℕ → ℕ → ℕ
one h k = if nat_eq h k then 1 else 0

-- a function with x at h, and otherwise unchanged
unfoldable pub put : {X : Type 0} → (ℕ → X) → ℕ → X → ℕ → X
put f h x k = if nat_eq h k then x else f k

-- how often a number occurs in a list
abbrev pub counts : List ℕ → ℕ → ℕ
counts [] k = 0
counts (c ∷ cs) k = one c k + counts cs k

-- the progress of a shell with its newest pipe after a call
abbrev pub next_due : Due → Call → Due
next_due (made p w) (start l) = used p w l.slots.input
next_due (used p w i) (close h) = passed p i
next_due d c = free

-- a new pipe joins the pipeline of the pipe with this end
abbrev pub joins : ℕ → Thing → (ℕ → ℕ) → ℕ → ℕ
joins p a_file pipeline = pipeline
joins p (read_end q) pipeline = put pipeline p (pipeline q)
joins p (write_end q) pipeline = put pipeline p (pipeline q)

-- A pipe continues the pipeline of an earlier one if the child that was started for it has the read end of that one as
-- its descriptor 0, and that end is closed as soon as the new write end is.
abbrev pub pipeline_after : Due → ℕ → (ℕ → Thing) → (ℕ → ℕ) → ℕ → ℕ
pipeline_after (passed p (To k)) h things pipeline = if nat_eq k.0 h then joins p (things h) pipeline else pipeline
pipeline_after _ h things pipeline = pipeline

-- a close ends the holding of a file, and a wait what is owed for a child, answered or refused
abbrev pub with_call : Call → Account → Account
with_call (close h) a =
    record a {
      files = λ k. a.files k - one h k;
      pipeline = pipeline_after a.due h a.things a.pipeline;
      due = next_due a.due (close h);
    }
with_call (wait c) a = record a { owed = λ k. a.owed k - one c k; due = next_due a.due (wait c) }
with_call c a = record a { due = next_due a.due c }

-- a file that was opened is held once more
abbrev pub add_file : Option ℕ → Account → Account
add_file (Some h) a = record a { files = λ k. a.files k + one h k; things = put a.things h a_file }
add_file None a = a

-- the two ends of a new pipe are held once more, and the write end is due
abbrev pub add_pair : Option (ℕ × ℕ) → Account → Account
add_pair (Some (r, w)) a = record a {
  files = λ k. a.files k + (one r k + one w k);
  things = put (put a.things r (read_end a.place)) w (write_end a.place);
  pipeline = put a.pipeline a.place a.place;
  due = made a.place w;
}
add_pair None a = a

-- the pipe that a child is started for
abbrev pub fed : Due → Option ℕ
fed (used p w i) = Some p
fed _ = None

-- a child that was started is owed once more, for the newest pipe if that was just made
abbrev pub add_owed : Option ℕ → Account → Account
add_owed (Some c) a = record a { owed = λ k. a.owed k + one c k; feeds = put a.feeds c (fed a.due) }
add_owed None a = a

-- what an answer adds to the account
abbrev pub answered : Call → Answer → Account → Account
answered (open_file p m) x a = add_file (as_file x) a
answered (here t) x a = add_file (as_file x) a
answered make_pipe x a = add_pair (as_pair x) a
answered (start l) x a = add_owed (as_child x) a
answered _ x a = a

-- the account after one more event
abbrev pub past : Account → Account
past a = record a { place = suc a.place }

-- the account after one more event, by its call and then by its answer
abbrev pub after : Account → Call → Answer → Account
after a c x = past (answered c x (with_call c a))

-- at the start nothing is held, and the children in the background list are owed
abbrev pub at_start : State → Account
at_start s =
    record {
      place = 0;
      files = λ k. 0;
      things = λ k. a_file;
      owed = counts s.background;
      feeds = λ k. None;
      pipeline = λ k.
          0;
      due = free;
    }

-- the account after these events
abbrev pub account : Account → List Event → Account
account a [] = a
account a (e ∷ es) = account (after a e.call e.answer) es

-- a new file is not held already
abbrev pub NewFile : Option ℕ → Account → Type 0
NewFile (Some h) a = a.files h ≡ 0
NewFile None a = Unit {0}

-- neither end of a new pipe is held already, and the two differ
abbrev pub NewPair : Option (ℕ × ℕ) → Account → Type 0
NewPair (Some (r, w)) a = (a.files r ≡ 0) × (a.files w ≡ 0) × (r ≢ w)
NewPair None a = Unit {0}

-- a new child is not owed already
abbrev pub NewChild : Option ℕ → Account → Type 0
NewChild (Some c) a = a.owed c ≡ 0
NewChild None a = Unit {0}

-- no number is given while it is held or owed, and the two of a pair are distinct
abbrev pub Fresh : Account → Call → Answer → Type 0
Fresh a (open_file p m) x = NewFile (as_file x) a
Fresh a (here t) x = NewFile (as_file x) a
Fresh a make_pipe x = NewPair (as_pair x) a
Fresh a (start l) x = NewChild (as_child x) a
Fresh a _ x = Unit {0}

-- the answers of these events are fresh
abbrev pub FreshFrom : Account → List Event → Type 0
FreshFrom a [] = Unit {0}
FreshFrom a (e ∷ es) = Fresh a e.call e.answer × FreshFrom (after a e.call e.answer) es

-- the members of a list are distinct
abbrev pub Differ : List ℕ → Type 0
Differ l = (k : ℕ) → counts l k ≤ 1

-- the answers of a trace are fresh
pub record IsFresh (s : State) (trace : List Event) : Type 0 where
  pub differ : Differ s.background
  pub fresh : FreshFrom (at_start s) trace

-- the file in this slot is held, if it is one
abbrev pub HoldsSlot : Account → Slot → Type 0
HoldsSlot a (Own n) = Unit {0}
HoldsSlot a (To h) = 1 ≤ a.files h.0

-- the files in all three slots are held
pub record HoldsSlots (a : Account) (slots : Slots) : Type 0 where
  pub input : HoldsSlot a slots.input
  pub output : HoldsSlot a slots.output
  pub errors : HoldsSlot a slots.errors

-- a call names what is held or owed
abbrev pub Names : Account → Call → Type 0
Names a (close h) = 1 ≤ a.files h
Names a (read h) = 1 ≤ a.files h
Names a (write to text) = HoldsSlot a to
Names a (start l) = HoldsSlots a l.slots
Names a (wait c) = 1 ≤ a.owed c
Names a _ = Unit {0}

-- the slot is this open file
abbrev pub IsTo : ℕ → Slot → Type 0
IsTo h (Own n) = ⊥
IsTo h (To k) = k.0 ≡ h

-- this open file is in one of the slots
abbrev pub InSlots : ℕ → Slots → Type 0
InSlots h slots = (IsTo h slots.input ⊎ IsTo h slots.output) ⊎ IsTo h slots.errors

-- a new write end comes first: the next call is a start with it in a slot, or its close; after that start, its close
abbrev pub InTurn : Due → Call → Type 0
InTurn (made p w) (close h) = h ≡ w
InTurn (made p w) (start l) = InSlots w l.slots
InTurn (made p w) _ = ⊥
InTurn (used p w i) (close h) = h ≡ w
InTurn (used p w i) _ = ⊥
InTurn _ c = Unit {0}

-- this isn't an end of a pipe of this pipeline or backquote, nor of a later one
abbrev pub Elsewhere : Account → ℕ → Thing → Type 0
Elsewhere a l a_file = Unit {0}
Elsewhere a l (read_end q) = a.pipeline q < l
Elsewhere a l (write_end q) = a.pipeline q < l

-- no pipe end of the pipeline or backquote that a child was started for, or of a later one, is held
abbrev pub NoneHeld : Account → Option ℕ → Type 0
NoneHeld a None = Unit {0}
NoneHeld a (Some p) = (h : ℕ) → 1 ≤ a.files h → Elsewhere a (a.pipeline p) (a.things h)

-- a child is waited for only when no pipe end of its pipeline or backquote, or of a later one, is held
abbrev pub Apart : Account → Call → Type 0
Apart a (wait c) = NoneHeld a (a.feeds c)
Apart a _ = Unit {0}

-- the conditions on a call after a trace
pub record Allowed (a : Account) (c : Call) : Type 0 where
  pub names : Names a c
  pub in_turn : InTurn a.due c
  pub apart : Apart a c
  pub handed : HandsOver c

-- they hold of each call of a trace
abbrev pub AllAllowed : Account → List Event → Type 0
AllAllowed a [] = Unit {0}
AllAllowed a (e ∷ es) = Allowed a e.call × AllAllowed (after a e.call e.answer) es

-- at the end no file is held, and each child that is owed is in the background list
pub record Settled (a : Account) (s : State) : Type 0 where
  pub files : (k : ℕ) → a.files k ≡ 0
  pub owed : (k : ℕ) → a.owed k ≡ counts s.background k

-- this is the write end of the newest pipe, which is held
abbrev pub IsDue : ℕ → ℕ → Due → Type 0
IsDue p h (made q w) = (q ≡ p) × (w ≡ h)
IsDue p h (used q w i) = (q ≡ p) × (w ≡ h)
IsDue p h _ = ⊥

-- at most one write end is held, that of the newest pipe, and no file is held twice
pub record OneWriteEnd (a : Account) : Type 0 where
  pub only : (h p : ℕ) → 1 ≤ a.files h → a.things h ≡ write_end p → IsDue p h a.due
  pub once : (h : ℕ) → a.files h ≤ 1

-- this holds before each event of a trace, and at its end
abbrev pub AllOneWriteEnd : Account → List Event → Type 0
AllOneWriteEnd a [] = OneWriteEnd a
AllOneWriteEnd a (e ∷ es) = OneWriteEnd a × AllOneWriteEnd (after a e.call e.answer) es

-- nothing is lost by a shell that began in a state and has this trace
pub record NothingLost (s : State) (trace : List Event) : Type 0 where
  -- each call names what is held or owed, a new write end comes first, and a wait comes when no pipe end of its
  -- pipeline is held
  pub each_call : AllAllowed (at_start s) trace
  -- so at most one write end is held at any moment
  pub one_write_end : AllOneWriteEnd (at_start s) trace

-- nothing is left by a shell that has ended in a state
abbrev pub NothingLeft : State → List Event → State → Type 0
NothingLeft s trace t = Settled (account (at_start s) trace) t

-- a condition that applies only if the test is false
abbrev pub Unless : Bool → Type 0 → Type 0
Unless true X = Unit {0}
Unless false X = X

-- a list of answers is fresh for a plan if no number is given while it is held or owed, and the two of a pair are
-- distinct
abbrev pub FreshAnswers : {X : Type 0} → Account → Plan X → List Answer → Type 0
FreshAnswers a (ask c go) (x ∷ given) =
    Unless (is_halt x) (Fresh a c x × FreshAnswers (after a c x) (go (fitting c x)) given)
FreshAnswers a _ _ = Unit {0}

-- such answers for the meaning of a script with at most n turns
pub record AreFreshAnswers (n : ℕ) (c : Node cmd) (s : State) (given : List Answer) : Type 0 where
  pub differ : Differ s.background
  pub fresh : FreshAnswers (at_start s) (whole n c s) given
