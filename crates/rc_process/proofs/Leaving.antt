-- What a shell gives up is not used afterwards.
use Rattle.std.proofs.Common.{◌≡◌, refl, sym, ap, subst, ◌∙◌, inl, inr, ℕ, zero, suc, ◌==◌, ◌||◌, Bool, true, false, not, eq-eqb, eqb-true}
use Rattle.std.specs.Prelude.{◌⊎◌, if◌then◌else◌}
use Rattle.rc_model.specs.Syntax.Tree.{Node, cmd}
use Rattle.rc_model.specs.declared.call.Slot.{Slot}
use Rattle.rc_model.specs.declared.call.Slot.TheVariants.{Own, To}
use Rattle.rc_model.specs.declared.call.Slots.{Slots}
use Rattle.rc_model.specs.Run.Calls.{Call, Answer, write, start, plain}
use Rattle.rc_model.specs.Run.Plans.{Plan, done_with, ask, cut}
use Rattle.rc_model.specs.Run.Script.{whole}
use Rattle.rc_model.specs.Run.State.{State}
use Rattle.law_descriptors.specs.Covering.{opens_of, slots_after, IsAmong, AreAmong, NamesOnly, Stands, AllCalls, is_opened, AfterOpens}
use Rattle.law_descriptors.proofs.Covered.{no_covered_is_named}
use Rattle.rc_host.specs.Leaving.{is_own, stands, gives_up, nothing}
use Rattle.rc_host.specs.declared.leaving.Leaving.{Leaving}
use Rattle.rc_process.specs.Leaving.{LeavesUnusedBy}

-- ** a call names no others of the shell's own than before

among_more : (P Q : ℕ → Type 0) → ((k : ℕ) → P k → Q k) → (slot : Slot) → IsAmong P slot → IsAmong Q slot
among_more P Q more (Own n) h = more n h
among_more P Q more (To file) h = tt

names_more : (P Q : ℕ → Type 0) → ((k : ℕ) → P k → Q k) → (c : Call) → NamesOnly P c → NamesOnly Q c
names_more P Q more (write slot text) h = among_more P Q more slot h
names_more P Q more (start launch) h = record {
  input = among_more P Q more launch.slots.input h.input;
  output = among_more P Q more launch.slots.output h.output;
  errors = among_more P Q more launch.slots.errors h.errors;
}
names_more P Q more c h = tt

all_more : {X : Type 0} (P Q : ℕ → Type 0) → ((k : ℕ) → P k → Q k) → (p : Plan X) → AllCalls (NamesOnly P) p → AllCalls (NamesOnly Q) p
all_more P Q more (done_with x) h = tt
all_more P Q more (ask c go) h = (names_more P Q more c h.0, λ a. all_more P Q more (go a) (h.1 a))
all_more P Q more cut h = tt

after_more : {X : Type 0} (P Q : ℕ → Type 0) → ((k : ℕ) → P k → Q k) → (n : ℕ) (p : Plan X) → AfterOpens n (NamesOnly P) p → AfterOpens n (NamesOnly Q) p
after_more P Q more zero p h = all_more P Q more p h
after_more P Q more (suc n) (done_with x) h = tt
after_more P Q more (suc n) (ask c go) h = λ a. after_more P Q more (if is_opened c a then n else suc n) (go a) (h a)
after_more P Q more (suc n) cut h = tt

-- ** what is given up

-- the descriptor of one number, or another
at : (m k : ℕ) (own rest is : Bool) → (k == m) ≡ is → (k ≡ m → own ≡ false) → rest ≡ false → (if is then own else rest) ≡ false
at m k own rest true e here others = here (eqb-true k m e)
at m k own rest false e here others = others

all_kept : (leaving : Leaving) (k : ℕ) → (k ≡ 0 → leaving.input ≡ false) → (k ≡ 1 → leaving.output ≡ false) → (k ≡ 2 → leaving.errors ≡ false) → gives_up leaving k ≡ false
all_kept leaving k input output errors =
    at 0 k leaving.input _ (k == 0) refl input (at 1 k leaving.output _ (k == 1) refl output (at 2 k leaving.errors false (k == 2) refl errors refl))

is_or : (a b c : Bool) → (a ≡ true) ⊎ ((b ≡ true) ⊎ (c ≡ true)) → (a || (b || c)) ≡ true
is_or true b c h = refl
is_or false true c h = refl
is_or false false true h = refl
is_or false false false (inl e) = e
is_or false false false (inr (inl e)) = e
is_or false false false (inr (inr e)) = e

own_is : (k : ℕ) (slot : Slot) → slot ≡ Own k → is_own k slot ≡ true
own_is k slot e = ap (is_own k) e ∙ eq-eqb k k refl

stands_is : (k : ℕ) (slots : Slots) → Stands slots k → stands k slots ≡ true
stands_is k slots (inl e) = is_or (is_own k slots.input) (is_own k slots.output) (is_own k slots.errors) (inl (own_is k slots.input e))
stands_is k slots (inr (inl e)) = is_or (is_own k slots.input) (is_own k slots.output) (is_own k slots.errors) (inr (inl (own_is k slots.output e)))
stands_is k slots (inr (inr e)) = is_or (is_own k slots.input) (is_own k slots.output) (is_own k slots.errors) (inr (inr (own_is k slots.errors e)))

-- a descriptor that stands in these slots is not given up by one who gives up the others
kept : (leaving : Leaving) (slots : Slots) → leaving.input ≡ not (stands 0 slots) → leaving.output ≡ not (stands 1 slots) → leaving.errors ≡ not (stands 2 slots)
    → (k : ℕ) → Stands slots k → gives_up leaving k ≡ false
kept leaving slots input output errors k s =
    all_kept leaving k
    (λ e. input ∙ ap not (ap (λ n. stands n slots) (sym e) ∙ stands_is k slots s))
    (λ e. output ∙ ap not (ap (λ n. stands n slots) (sym e) ∙ stands_is k slots s))
    (λ e. errors ∙ ap not (ap (λ n. stands n slots) (sym e) ∙ stands_is k slots s))

-- ** what a shell gives up

-- all but what stands after the redirections around a command, once their files are open
pub unused : (leaving : Leaving) (c : Node cmd) (files : ℕ) (slots : Slots) → files ≡ opens_of c → slots ≡ slots_after c plain → leaving.files ≡ files
    → leaving.input ≡ not (stands 0 slots) → leaving.output ≡ not (stands 1 slots) → leaving.errors ≡ not (stands 2 slots) → LeavesUnusedBy leaving c
unused leaving c files slots opens after given input output errors n s =
    let more : (k : ℕ) → Stands (slots_after c plain) k → gives_up leaving k ≡ false = λ k h. kept leaving slots input output errors k (subst (λ these. Stands these k) (sym after) h) in
    subst (λ k. AfterOpens k (NamesOnly (λ d. gives_up leaving d ≡ false)) (whole n c s)) (sym (given ∙ opens))
    (after_more (Stands (slots_after c plain)) (λ d. gives_up leaving d ≡ false) more (opens_of c) (whole n c s) (no_covered_is_named n c s))

-- or nothing
among_all : (Q : ℕ → Type 0) → ((k : ℕ) → Q k) → (slot : Slot) → IsAmong Q slot
among_all Q all (Own n) = all n
among_all Q all (To file) = tt

names_all : (Q : ℕ → Type 0) → ((k : ℕ) → Q k) → (c : Call) → NamesOnly Q c
names_all Q all (write slot text) = among_all Q all slot
names_all Q all (start launch) = record {
  input = among_all Q all launch.slots.input;
  output = among_all Q all launch.slots.output;
  errors = among_all Q all launch.slots.errors;
}
names_all Q all c = tt

all_calls : {X : Type 0} (Q : ℕ → Type 0) → ((k : ℕ) → Q k) → (p : Plan X) → AllCalls (NamesOnly Q) p
all_calls Q all (done_with x) = tt
all_calls Q all (ask c go) = (names_all Q all c, λ a. all_calls Q all (go a))
all_calls Q all cut = tt

pub unused_none : (leaving : Leaving) (c : Node cmd) → leaving ≡ nothing → LeavesUnusedBy leaving c
unused_none leaving c e n s =
    subst (λ l. AfterOpens l.files (NamesOnly (λ d. gives_up l d ≡ false)) (whole n c s)) (sym e)
    (all_calls (λ d. gives_up nothing d ≡ false) (λ k. all_kept nothing k (λ e. refl) (λ e. refl) (λ e. refl)) (whole n c s))
