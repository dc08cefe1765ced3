-- The rules of keeping.
use Rattle.std.proofs.Common.{◌≡◌, ℕ, ◌+◌, ◌≤◌, ◌<◌, List, [], ◌∷◌, ◌++◌, Some, None, refl, ◌∙◌, arith}
use Rattle.std.proofs.lemmas.Bool.{eq-eqb, ne_eqb}
use Rattle.rc_model.specs.Run.Calls.{Call, Answer}
use Rattle.rc_model.specs.declared.call.Slot.{Slot}
use Rattle.rc_model.specs.declared.call.Slot.TheVariants.{Own, To}
use Rattle.rc_model.specs.Run.Plans.{Plan, done_with, ask, cut}
use Rattle.rc_model.specs.Run.State.{State}
use Rattle.rc_model.specs.Run.Shell.{ShellResult, Next, Exit, under}
use Rattle.rc_model.specs.Family.Accounts.{Thing, a_file, read_end, write_end, Due, free, made, used, passed, Account, one, put, counts, next_due, pipeline_after, fed, after, Fresh, InTurn, Allowed}

-- Each call is allowed, whatever fresh answers come, and at the end this holds.
abbrev pub Keeps : {X : Type 0} → Account → Plan X → (Account → X → Type 0) → Type 0
Keeps a (done_with x) Q = Q a x
Keeps a (ask c go) Q = Allowed a c × ((x : Answer) → Fresh a c x → Keeps (after a c x) (go x) Q)
Keeps a cut Q = Unit {0}

pub keeps_mono : {X : Type 0} (a : Account) (p : Plan X) (P Q : Account → X → Type 0) → ((b : Account) (x : X) → P b x → Q b x) → Keeps a p P → Keeps a p Q
keeps_mono a (done_with x) P Q h k = h a x k
keeps_mono a (ask c go) P Q h k = (k.0, λ x f. keeps_mono (after a c x) (go x) P Q h (k.1 x f))
keeps_mono a cut P Q h k = tt

pub keeps_under : {A X : Type 0} (a : Account) (p : Plan (ShellResult A)) (go : A → State → Plan X) (leave : State → List ℕ → Plan X) (P : Account → ShellResult A → Type 0) (Q : Account → X → Type 0)
    → Keeps a p P → ((b : Account) (x : A) (s : State) → P b (Next x s) → Keeps b (go x s) Q) → ((b : Account) (s : State) (owed : List ℕ) → P b (Exit s owed) → Keeps b (leave s owed) Q)
    → Keeps a (under p go leave) Q
keeps_under a (done_with (Next x s)) go leave P Q k hn he = hn a x s k
keeps_under a (done_with (Exit s owed)) go leave P Q k hn he = he a s owed k
keeps_under a (ask c more) go leave P Q k hn he = (k.0, λ x f. keeps_under (after a c x) (more x) go leave P Q (k.1 x f) hn he)
keeps_under a cut go leave P Q k hn he = tt

-- Numbers.
pub one_self : (h : ℕ) → one h h ≡ 1
unfolding one
one_self h = rw (eq-eqb h h refl)

pub put_self : {X : Type 0} (f : ℕ → X) (h : ℕ) (x : X) → put f h x h ≡ x
unfolding put
put_self f h x = rw (eq-eqb h h refl)

pub put_other : {X : Type 0} (f : ℕ → X) (h : ℕ) (x : X) (k : ℕ) → (h ≡ k → ⊥) → put f h x k ≡ f k
unfolding put
put_other f h x k ne = rw (ne_eqb h k ne)

pub counts-append : (xs ys : List ℕ) (k : ℕ) → counts (xs ++ ys) k ≡ counts xs k + counts ys k
counts-append [] ys k = omega arith
counts-append (x ∷ xs) ys k = omega (arith, counts-append xs ys k)

-- What is held: a number, what it is, and the pipeline of an end.
pub record Held : Type 0 where
  pub number : ℕ
  pub thing : Thing
  pub pipeline : ℕ

-- What is known of a child: nothing, or that it was started for no pipe, or for this one, of this pipeline.
pub data Known : Type 0 where
  unknown : Known
  alone : Known
  of_line : (pipe pipeline : ℕ) → Known

pub record Kid : Type 0 where
  pub number : ℕ
  pub known : Known

abbrev pub held : ℕ → Thing → ℕ → Held
held n t l = record { number = n; thing = t; pipeline = l }

abbrev pub kid_of : ℕ → Known → Kid
kid_of n k = record { number = n; known = k }

abbrev pub held_counts : List Held → ℕ → ℕ
held_counts [] k = 0
held_counts (e ∷ es) k = one e.number k + held_counts es k

abbrev pub child_counts : List Kid → ℕ → ℕ
child_counts [] k = 0
child_counts (e ∷ es) k = one e.number k + child_counts es k

pub record InLine (a : Account) (p l : ℕ) : Type 0 where
  pub is : a.pipeline p ≡ l
  pub past : p < a.place
  pub old : l < a.place

abbrev pub ThingIn : Account → Thing → ℕ → Type 0
ThingIn a a_file l = Unit {0}
ThingIn a (read_end p) l = InLine a p l
ThingIn a (write_end p) l = InLine a p l

pub record IsHeld (a : Account) (e : Held) : Type 0 where
  pub is : a.things e.number ≡ e.thing
  pub in_line : ThingIn a e.thing e.pipeline

abbrev pub AllHeld : Account → List Held → Type 0
AllHeld a [] = Unit {0}
AllHeld a (e ∷ es) = IsHeld a e × AllHeld a es

abbrev pub KnownOf : Account → ℕ → Known → Type 0
KnownOf a n unknown = Unit {0}
KnownOf a n alone = a.feeds n ≡ None
KnownOf a n (of_line p l) = (a.feeds n ≡ Some p) × InLine a p l

abbrev pub AllKnown : Account → List Kid → Type 0
AllKnown a [] = Unit {0}
AllKnown a (e ∷ es) = KnownOf a e.number e.known × AllKnown a es

-- older than a place: its pipe was made before it
abbrev pub ThingBelow : ℕ → Thing → Type 0
ThingBelow p a_file = Unit {0}
ThingBelow p (read_end q) = q < p
ThingBelow p (write_end q) = q < p

abbrev pub AllBelow : ℕ → List Held → Type 0
AllBelow p [] = Unit {0}
AllBelow p (e ∷ es) = ThingBelow p e.thing × AllBelow p es

abbrev pub KnownBelow : ℕ → Known → Type 0
KnownBelow p unknown = Unit {0}
KnownBelow p alone = Unit {0}
KnownBelow p (of_line q l) = q < p

abbrev pub KidsBelow : ℕ → List Kid → Type 0
KidsBelow p [] = Unit {0}
KidsBelow p (e ∷ es) = KnownBelow p e.known × KidsBelow p es

-- of older pipelines
abbrev pub LineBelow : ℕ → Thing → ℕ → Type 0
LineBelow g a_file l = Unit {0}
LineBelow g (read_end q) l = l < g
LineBelow g (write_end q) l = l < g

abbrev pub AllOlder : ℕ → List Held → Type 0
AllOlder g [] = Unit {0}
AllOlder g (e ∷ es) = LineBelow g e.thing e.pipeline × AllOlder g es

pub below_place : (a : Account) (es : List Held) → AllHeld a es → AllBelow a.place es
below_place a [] h = tt
below_place a (e ∷ es) h = (one_below e.thing e.pipeline h.0.in_line, below_place a es h.1)
  where
    one_below : (t : Thing) (l : ℕ) → ThingIn a t l → ThingBelow a.place t
    one_below a_file l i = tt
    one_below (read_end q) l i = i.past
    one_below (write_end q) l i = i.past

pub older_place : (a : Account) (es : List Held) → AllHeld a es → AllOlder a.place es
older_place a [] h = tt
older_place a (e ∷ es) h = (one_older e.thing e.pipeline h.0.in_line, older_place a es h.1)
  where
    one_older : (t : Thing) (l : ℕ) → ThingIn a t l → LineBelow a.place t l
    one_older a_file l i = tt
    one_older (read_end q) l i = i.old
    one_older (write_end q) l i = i.old

pub kids_below_place : (a : Account) (es : List Kid) → AllKnown a es → KidsBelow a.place es
kids_below_place a [] h = tt
kids_below_place a (e ∷ es) h = (one_below e.known h.0, kids_below_place a es h.1)
  where
    one_below : (t : Known) → KnownOf a e.number t → KnownBelow a.place t
    one_below unknown i = tt
    one_below alone i = tt
    one_below (of_line q l) i = i.1.past

-- What is held stays so in a later account that agrees on it.
pub later_line : (a b : Account) (p l q : ℕ) → q < p → ((r : ℕ) → r < p → b.pipeline r ≡ a.pipeline r) → a.place ≤ b.place → InLine a q l → InLine b q l
later_line a b p l q lt same le i = record { is = same q lt ∙ i.is; past = omega (arith, i.past); old = omega (arith, i.old) }

pub later_held : (a b : Account) (p : ℕ) (es : List Held) → ((k : ℕ) → 1 ≤ held_counts es k → b.things k ≡ a.things k)
    → ((r : ℕ) → r < p → b.pipeline r ≡ a.pipeline r) → a.place ≤ b.place → AllBelow p es → AllHeld a es → AllHeld b es
later_held a b p [] st sl le w h = tt
later_held a b p (e ∷ es) st sl le w h = (
  record { is = st e.number (omega (arith, one_self e.number)) ∙ h.0.is; in_line = later e.thing e.pipeline w.0 h.0.in_line },
  later_held a b p es (λ k c. st k (omega arith)) sl le w.1 h.1,
)
  where
    later : (t : Thing) (l : ℕ) → ThingBelow p t → ThingIn a t l → ThingIn b t l
    later a_file l lt i = tt
    later (read_end q) l lt i = later_line a b p l q lt sl le i
    later (write_end q) l lt i = later_line a b p l q lt sl le i

pub later_known : (a b : Account) (p : ℕ) (es : List Kid) → ((k : ℕ) → 1 ≤ child_counts es k → b.feeds k ≡ a.feeds k)
    → ((r : ℕ) → r < p → b.pipeline r ≡ a.pipeline r) → a.place ≤ b.place → KidsBelow p es → AllKnown a es → AllKnown b es
later_known a b p [] st sl le w h = tt
later_known a b p (e ∷ es) st sl le w h =
    (later e.known w.0 h.0, later_known a b p es (λ k c. st k (omega arith)) sl le w.1 h.1)
  where
    same : b.feeds e.number ≡ a.feeds e.number
    same = st e.number (omega (arith, one_self e.number))

    later : (t : Known) → KnownBelow p t → KnownOf a e.number t → KnownOf b e.number t
    later unknown lt i = tt
    later alone lt i = same ∙ i
    later (of_line q l) lt i = (same ∙ i.0, later_line a b p l q lt sl le i.1)

-- Between calls of a pipe's beginning: nothing is due, or the newest pipe's read end is on top, and was not the input of its child.
abbrev pub NotSlot : Slot → ℕ → Type 0
NotSlot (Own n) h = Unit {0}
NotSlot (To k) h = k.0 ≡ h → ⊥

abbrev pub OnTop : ℕ → Slot → List Held → Type 0
OnTop p i [] = ⊥
OnTop p i (e ∷ es) = NotSlot i e.number

abbrev pub Calm : List Held → Due → Type 0
Calm es free = Unit {0}
Calm es (made p w) = ⊥
Calm es (used p w i) = ⊥
Calm es (passed p i) = OnTop p i es

-- The account has exactly these files held, the newest first, and these children owed beside the background list.
pub record Neat (P : Due → Type 0) (fs : List Held) (os : List Kid) (a : Account) (s : State) : Type 0 where
  pub due : P a.due
  pub files : (k : ℕ) → a.files k ≡ held_counts fs k
  pub owed : (k : ℕ) → a.owed k ≡ counts s.background k + child_counts os k
  pub all_held : AllHeld a fs
  pub all_known : AllKnown a os
  pub background : (k : ℕ) → 1 ≤ counts s.background k → a.feeds k ≡ None

abbrev pub Rest : List Held → List Kid → Account → State → Type 0
Rest fs os a s = Neat (Calm fs) fs os a s

pub calm_next : (fs gs : List Held) (d : Due) (c : Call) → Calm fs d → Calm gs (next_due d c)
calm_next fs gs free c h = tt
calm_next fs gs (made p w) c h = absurd h
calm_next fs gs (used p w i) c h = absurd h
calm_next fs gs (passed p i) c h = tt

pub calm_fed : (fs : List Held) (d : Due) (c : Call) → Calm fs d → fed (next_due d c) ≡ None
calm_fed fs free c h = refl
calm_fed fs (made p w) c h = absurd h
calm_fed fs (used p w i) c h = absurd h
calm_fed fs (passed p i) c h = refl

pub calm_turn : (fs : List Held) (d : Due) (c : Call) → Calm fs d → InTurn d c
calm_turn fs free c h = tt
calm_turn fs (made p w) c h = absurd h
calm_turn fs (used p w i) c h = absurd h
calm_turn fs (passed p i) c h = tt

pub calm_line : (e : Held) (fs : List Held) (d : Due) (things : ℕ → Thing) (pipeline : ℕ → ℕ) → Calm (e ∷ fs) d → pipeline_after d e.number things pipeline ≡ pipeline
calm_line e fs free things pipeline h = refl
calm_line e fs (made p w) things pipeline h = absurd h
calm_line e fs (used p w i) things pipeline h = absurd h
calm_line e fs (passed p (Own n)) things pipeline h = refl
calm_line e fs (passed p (To k)) things pipeline h = rw (ne_eqb k.0 e.number h)
