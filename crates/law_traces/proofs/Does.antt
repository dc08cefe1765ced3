-- What a piece of the shell keeps.
use Rattle.std.proofs.Common.{◌≡◌, ℕ, ◌+◌, ◌≤◌, List, [], ◌∷◌, ◌++◌, Option, Some, None, refl, sym, subst, arith}
use Rattle.std.specs.Prelude.{codes}
use Rattle.rc_model.specs.Run.Calls.{Call, Launch, write, start, probe}
use Rattle.rc_model.specs.declared.call.Slot.{Slot}
use Rattle.rc_model.specs.declared.call.Slot.TheVariants.{Own, To}
use Rattle.rc_model.specs.declared.call.Slots.{Slots}
use Rattle.rc_model.specs.Run.Plans.{Plan}
use Rattle.rc_model.specs.Run.State.{State, with_status}
use Rattle.rc_model.specs.Run.Shell.{ShellResult, Next, Exit, Shell, under, leaves, pure, skip, call, say, get, change, exits, stops}
use Rattle.rc_model.specs.Run.Acts.{set_status, report, runtime_error, fails}
use Rattle.rc_model.specs.Family.Accounts.{a_file, Due, Account, counts, next_due, with_call, add_file, add_owed, past, NewFile, NewChild, HoldsSlot, HoldsSlots}
use Rattle.law_traces.proofs.Keep.{Keeps, keeps_under, Held, held, unknown, alone, Kid, kid_of, held_counts, child_counts, AllKnown, Neat, Rest}
use Rattle.law_traces.proofs.Steps.{rest_on, may_call, rest_file, rest_child}

-- children of whom nothing is known
abbrev pub strangers : List ℕ → List Kid
strangers [] = []
strangers (c ∷ cs) = kid_of c unknown ∷ strangers cs

-- how a piece ends: in a next state so, or with the shell, where nothing is held but what was before
abbrev pub Ends : {A : Type 0} → List Held → List Kid → (A → Account → State → Type 0) → Account → ShellResult A → Type 0
Ends F O Q a (Next x s) = Q x a s
Ends F O Q a (Exit s owed) = Rest F (strangers owed ++ O) a s

pub keeps_bind : {A B : Type 0} (F : List Held) (O : List Kid) {Q : A → Account → State → Type 0} (R : B → Account → State → Type 0) (a : Account) (p : Plan (ShellResult A)) (f : A → Shell B)
    → Keeps a p (Ends F O Q) → ((x : A) (b : Account) (s : State) → Q x b s → Keeps b (f x s) (Ends F O R)) → Keeps a (under p f leaves) (Ends F O R)
keeps_bind F O {Q} R a p f k h = keeps_under a p f leaves (Ends F O Q) (Ends F O R) k (λ b x s q. h x b s q) (λ b s owed q. q)

-- what the descriptors stand for is among these
abbrev pub CoversSlot : List Held → Slot → Type 0
CoversSlot F (Own n) = Unit {0}
CoversSlot F (To h) = 1 ≤ held_counts F h.0

pub record Covers (F : List Held) (slots : Slots) : Type 0 where
  pub input : CoversSlot F slots.input
  pub output : CoversSlot F slots.output
  pub errors : CoversSlot F slots.errors

pub covers_more : (F : List Held) (e : Held) (slot : Slot) → CoversSlot F slot → CoversSlot (e ∷ F) slot
covers_more F e (Own n) c = tt
covers_more F e (To h) c = omega arith

pub covers_all : {F : List Held} {slots : Slots} (e : Held) → Covers F slots → Covers (e ∷ F) slots
covers_all {F = F} {slots = slots} e c = record { input = covers_more F e slots.input c.input; output = covers_more F e slots.output c.output; errors = covers_more F e slots.errors c.errors }

pub holds_slot : {P : Due → Type 0} {F : List Held} {O : List Kid} {a : Account} {s : State} (slot : Slot) → CoversSlot F slot → Neat P F O a s → HoldsSlot a slot
holds_slot (Own n) c k = tt
holds_slot (To h) c k = omega (arith, k.files h.0)

pub holds_slots : {P : Due → Type 0} {F : List Held} {O : List Kid} {a : Account} {s : State} (slots : Slots) → Covers F slots → Neat P F O a s → HoldsSlots a slots
holds_slots slots c k = record { input = holds_slot slots.input c.input k; output = holds_slot slots.output c.output k; errors = holds_slot slots.errors c.errors k }

-- what was held and owed before is held and owed after, and nothing else
pub record Clean {A : Type 0} (slots : Slots) (m : Shell A) : Type 0 where
  pub by : (F : List Held) (O : List Kid) (a : Account) (s : State) → Covers F slots → Rest F O a s → Keeps a (m s) (Ends F O (λ x. Rest F O))

pub clean_bind : {A B : Type 0} {slots : Slots} (m : Shell A) (f : A → Shell B) → Clean slots m → ((x : A) → Clean slots (f x)) → Clean slots (λ s. under (m s) f leaves)
clean_bind m f km kf = record { by = λ F O a s c n. keeps_bind F O {Q = λ x. Rest F O} (λ x. Rest F O) a (m s) f (km.by F O a s c n) (λ x b t k. (kf x).by F O b t c k) }

pub clean_pure : {A : Type 0} {slots : Slots} (x : A) → Clean slots (pure x)
clean_pure x = record { by = λ F O a s c n. n }

pub clean_skip : {slots : Slots} → Clean slots skip
clean_skip = record { by = λ F O a s c n. n }

pub clean_get : {slots : Slots} → Clean slots get
clean_get = record { by = λ F O a s c n. n }

pub clean_stops : {A : Type 0} {slots : Slots} → Clean {A = A} slots stops
clean_stops = record { by = λ F O a s c n. tt }

pub clean_exits : {A : Type 0} {slots : Slots} → Clean {A = A} slots exits
clean_exits = record { by = λ F O a s c n. n }

-- the state changes but for its background list
pub neat_state : {P : Due → Type 0} {F : List Held} {O : List Kid} {a : Account} {s : State} (t : State) → t.background ≡ s.background → Neat P F O a s → Neat P F O a t
neat_state {O = O} {a = a} t e n = record {
  due = n.due;
  files = n.files;
  owed = λ k. subst (λ l. a.owed k ≡ counts l k + child_counts O k) (sym e) (n.owed k);
  all_held = n.all_held;
  all_known = n.all_known;
  background = λ k. subst (λ l. 1 ≤ counts l k → a.feeds k ≡ None) (sym e) (n.background k);
}

pub clean_change : {slots : Slots} (f : State → State) → ((s : State) → (f s).background ≡ s.background) → Clean slots (change f)
clean_change f e = record { by = λ F O a s c n. neat_state (f s) (e s) n }

pub clean_status : {slots : Slots} (t : List ℕ) → Clean slots (set_status t)
clean_status t = clean_change (λ s. with_status s t) (λ s. refl)

-- calls that give and take nothing
pub clean_probe : {slots : Slots} (path : List ℕ) → Clean slots (call (probe path))
clean_probe path = record { by = λ F O a s c n. (may_call (probe path) n tt tt tt, λ x f. rest_on (probe path) n) }

pub clean_write : {slots : Slots} (text : List ℕ) → Clean slots (say (write slots.errors text))
clean_write {slots = slots} text = record { by = λ F O a s c n. (may_call (write slots.errors text) n (holds_slot slots.errors c.errors n) tt tt, λ x f. rest_on (write slots.errors text) n) }

pub clean_report : {slots : Slots} (text : List ℕ) → Clean slots (report slots text)
clean_report text = clean_write _

pub clean_fails : {A : Type 0} {slots : Slots} (text : List ℕ) → Clean {A = A} slots (fails slots text)
clean_fails {slots = slots} text =
    clean_bind (runtime_error slots text) (λ x. exits)
    (clean_bind (report slots text) (λ x. set_status (codes "error")) (clean_report text) (λ x. clean_status (codes "error"))) (λ x. clean_exits)

-- a file that was opened_so, or not
abbrev pub Opened : List Held → List Kid → Option ℕ → Account → State → Type 0
Opened F O (Some h) a s = Rest (held h a_file 0 ∷ F) O a s
Opened F O None a s = Rest F O a s

pub opened_so : {F : List Held} {O : List Kid} {a : Account} {s : State} (c : Call) (o : Option ℕ) → NewFile o a → Rest F O a s
    → Opened F O o (past (add_file o (record a { due = next_due a.due c }))) s
opened_so c (Some h) f n = rest_file c h f n
opened_so c None f n = rest_on c n

-- a child that was started, or not
abbrev pub Taken : List Held → List Kid → Option ℕ → Account → State → Type 0
Taken F O (Some k) a s = Rest F (kid_of k alone ∷ O) a s
Taken F O None a s = Rest F O a s

pub taken : {F : List Held} {O : List Kid} {a : Account} {s : State} (l : Launch) (o : Option ℕ) → NewChild o a → Rest F O a s → Taken F O o (past (add_owed o (with_call (start l) a))) s
taken l (Some k) f n = rest_child l k f n
taken l None f n = rest_on (start l) n

-- the same children in another order, or with less known of them
pub rekid : {P : Due → Type 0} {F : List Held} {O : List Kid} {a : Account} {s : State} (O' : List Kid)
    → ((k : ℕ) → child_counts O k ≡ child_counts O' k) → AllKnown a O' → Neat P F O a s → Neat P F O' a s
rekid O' e known n = record { due = n.due; files = n.files; owed = λ k. omega (arith, n.owed k, e k); all_held = n.all_held; all_known = known; background = n.background }

pub child_counts-append : (xs ys : List Kid) (k : ℕ) → child_counts (xs ++ ys) k ≡ child_counts xs k + child_counts ys k
child_counts-append [] ys k = omega arith
child_counts-append (x ∷ xs) ys k = omega (arith, child_counts-append xs ys k)

pub known_append : (a : Account) (xs ys : List Kid) → AllKnown a xs → AllKnown a ys → AllKnown a (xs ++ ys)
known_append a [] ys h k = k
known_append a (x ∷ xs) ys h k = (h.0, known_append a xs ys h.1 k)

pub known_front : (a : Account) (xs ys : List Kid) → AllKnown a (xs ++ ys) → AllKnown a xs
known_front a [] ys h = tt
known_front a (x ∷ xs) ys h = (h.0, known_front a xs ys h.1)

pub known_back : (a : Account) (xs ys : List Kid) → AllKnown a (xs ++ ys) → AllKnown a ys
known_back a [] ys h = h
known_back a (x ∷ xs) ys h = known_back a xs ys h.1

pub strangers_known : (a : Account) (cs : List ℕ) → AllKnown a (strangers cs)
strangers_known a [] = tt
strangers_known a (c ∷ cs) = (tt, strangers_known a cs)

pub strangers-append : (xs ys : List ℕ) (k : ℕ) → child_counts (strangers (xs ++ ys)) k ≡ child_counts (strangers xs) k + child_counts (strangers ys) k
strangers-append [] ys k = omega arith
strangers-append (x ∷ xs) ys k = omega (arith, strangers-append xs ys k)
