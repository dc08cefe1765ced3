-- The whole script: both directions.
use Rattle.std.proofs.Common.{◌≡◌, ℕ, ◌≤◌, List, [], ◌∷◌, refl, sym, ap, ◌∙◌, subst, ⊎_elim, arith}
use Rattle.std.specs.Prelude.{Bool, true, false, if◌then◌else◌}
use Rattle.std.proofs.lemmas.Bool.{cases_lt}
use Rattle.std.proofs.lemmas.List.{append-nil}
use Rattle.rc_model.specs.Run.Calls.{Answer, Call, wait, fitting, is_halt, plain}
use Rattle.rc_model.specs.Syntax.Tree.{Node, cmd}
use Rattle.rc_model.specs.Run.Plans.{Plan, done_with, ask, cut, and_then, Played, Ends, Waits, Cut, after_call, play, calls_made}
use Rattle.rc_model.specs.Run.State.{State}
use Rattle.rc_model.specs.Run.Shell.{ShellResult, Next, Exit, under}
use Rattle.rc_model.specs.Run.Meaning.{meaning}
use Rattle.rc_model.specs.Code.Layout.{Return}
use Rattle.rc_model.specs.Code.Machine.{Config, end_waits, after, exec, begin}
use Rattle.rc_model.specs.Run.Script.{waits, script, IsPrefix, Within, Agrees}
use Rattle.law_machine.proofs.Less.{less_plays, less_exec}
use Rattle.law_machine.proofs.Run.{Point, at, Runs, does}
use Rattle.law_machine.proofs.Legs.{spot}
use Rattle.law_machine.proofs.Forms.{end_of, at_return}
use Rattle.law_machine.proofs.Follow.{meaning_runs}
use Rattle.law_machine.proofs.Turns.{turns_go_on}
use Rattle.law_machine.specs.Limits.{IsOver}

-- a call whose answer halts or is given, and what follows it
abbrev pub answered : {X : Type 0} → Call → Bool → Played X → Played X
answered c halted p = if halted then Waits (c ∷ []) else after_call c p

answered_alike : {X : Type 0} (c : Call) (halted : Bool) (p r : Played X) → p ≡ r → answered c halted p ≡ answered c halted r
answered_alike c halted p r e = ap (answered c halted) e

-- how many instructions a run took
abbrev LongEnough : {X : Type 0} → ℕ → ℕ → Played X → Type 0
LongEnough n j (Ends made s left) = Unit {0}
LongEnough n j (Waits made) = Unit {0}
LongEnough n j (Cut made) = n ≤ j

enough_call : {X : Type 0} (n i j : ℕ) (c : Call) (p : Played X) → i ≤ j → LongEnough n i p → LongEnough n j (after_call c p)
enough_call n i j c (Ends made s left) le h = tt
enough_call n i j c (Waits made) le h = tt
enough_call n i j c (Cut made) le h = omega (arith, le, h)

enough_answered : {X : Type 0} (n i j : ℕ) (c : Call) (halted : Bool) (p : Played X) → i ≤ j → LongEnough n i p → LongEnough n j (answered c halted p)
enough_answered n i j c true p le h = tt
enough_answered n i j c false p le h = enough_call n i j c p le h

record Follows (n : ℕ) (f : Point) (given : List Answer) (r : Played State) : Type 0 where
  j : ℕ
  enough : LongEnough n j r
  is : play (f j) given ≡ r

owed_same : (owed : List ℕ) (s : State) (k : ℕ) (given : List Answer)
    → play (and_then (end_waits owed s) (after (exec k))) given ≡ play (waits s owed) given
owed_same [] s k given = refl
owed_same (c ∷ cs) s k [] = refl
owed_same (c ∷ cs) s k (a ∷ rest) = answered_alike (wait c) (is_halt a) _ _ (owed_same cs s k rest)

owed_enough : (n j : ℕ) (owed : List ℕ) (s : State) (given : List Answer) → LongEnough n j (play (waits s owed) given)
owed_enough n j [] s given = tt
owed_enough n j (c ∷ cs) s [] = tt
owed_enough n j (c ∷ cs) s (a ∷ rest) = enough_answered n j j (wait c) (is_halt a) _ (omega arith) (owed_enough n j cs s rest)

-- the end of a script, at the Return of its code
abbrev last : Node cmd → State → State → Config
last d s t = spot (begin d s) (end_of d) [] t

follows_from : (n : ℕ) (d : Node cmd) (s0 : State) (p : Plan (ShellResult (Unit {0}))) (f : Point) (given : List Answer)
    → Runs n f (λ a t. at (last d s0 t)) [] p → Follows n f given (play (under p (λ a t. done_with t) waits) given)
follows_from n d s0 (done_with (Next a t)) f given r =
    let over = (does (last d s0 t) Return (at_return d)).by 0 in
    let come = r.by.by over.0 in
    record { j = come.0; enough = tt; is = ap (λ p. play p given) (come.2 ∙ over.2) }
follows_from n d s0 (done_with (Exit t owed)) f given r =
    let come = r.by.by 0 in
    record { j = come.0; enough = owed_enough n come.0 owed t given; is = ap (λ p. play p given) come.2 ∙ owed_same owed t 0 given }
follows_from n d s0 (ask c go) f [] r = let come = r.by.1.by 0 in record { j = come.0; enough = tt; is = ap (λ p. play p []) come.2 }
follows_from n d s0 (ask c go) f (a ∷ rest) r =
    let b = fitting c a in
    let i = follows_from n d s0 (go b) (r.by.0 b) rest (record { by = r.by.2 b }) in
    let come = r.by.1.by i.j in
    record {
      j = come.0;
      enough = enough_answered n i.j come.0 c (is_halt a) _ come.1 i.enough;
      is = ap (λ p. play p (a ∷ rest)) come.2 ∙ answered_alike c (is_halt a) _ _ i.is;
    }
follows_from n d s0 cut f given r = record { j = r.by.0; enough = r.by.1; is = ap (λ p. play p given) r.by.2 }

-- the two runs, of which one may be longer
within_over : {X : Type 0} (p q : Played X) → IsOver p → Within p q → q ≡ p
within_over (Ends made x left) q o h = h
within_over (Waits made) q o h = h
within_over (Cut made) q o h = absurd o

within_itself : {X : Type 0} (p : Played X) → Within p p
within_itself (Ends made x left) = refl
within_itself (Waits made) = refl
within_itself (Cut made) = record { rest = []; is = sym (append-nil made) }

-- with more instructions
goes_on : (m n : ℕ) (c : Config) (given : List Answer) → m ≤ n → Within (play (exec m c) given) (play (exec n c) given)
goes_on m n c given le = less_plays (exec m c) (exec n c) given (less_exec m n c le)

longer : (m n : ℕ) (c : Config) (given : List Answer) (o : Played State) → m ≤ n → IsOver o → play (exec m c) given ≡ o → play (exec n c) given ≡ o
longer m n c given o le over e = within_over o (play (exec n c) given) over (subst (λ p. Within p (play (exec n c) given)) e (goes_on m n c given le))

one_end : (m n : ℕ) (c : Config) (given : List Answer) (o p : Played State) → IsOver o → IsOver p
    → play (exec m c) given ≡ o → play (exec n c) given ≡ p → o ≡ p
one_end m n c given o p over_o over_p e f =
    ⊎_elim
    (λ lt. sym (longer m n c given o (omega arith) over_o e) ∙ f)
    (λ le. sym e ∙ longer n m c given p le over_p f)
    (cases_lt m n)

-- a run that is over within m instructions is that of the meaning with m turns
over_too : (m : ℕ) (c : Config) (given : List Answer) (p r : Played State)
    → IsOver p → play (exec m c) given ≡ p → Follows m (at c) given r → r ≡ p
over_too m c given p (Ends made s left) over e f = sym (one_end m f.j c given p (Ends made s left) over tt e f.is)
over_too m c given p (Waits made) over e f = sym (one_end m f.j c given p (Waits made) over tt e f.is)
over_too m c given p (Cut made) over e f = absurd (subst IsOver (sym (longer m f.j c given p f.enough over e) ∙ f.is) over)

cut_at : (m j : ℕ) (c : Config) (given : List Answer) (made : List Call) (r : Played State) → m ≤ j
    → play (exec m c) given ≡ Cut made → play (exec j c) given ≡ r → IsPrefix made (calls_made r)
cut_at m j c given made r le e is =
    subst (λ p. IsPrefix made (calls_made p)) is (subst (λ p. Within p (play (exec j c) given)) e (goes_on m j c given le))

-- one that was cut, has made the first of its calls
cut_too : (m : ℕ) (c : Config) (given : List Answer) (made : List Call) (r : Played State)
    → play (exec m c) given ≡ Cut made → Follows m (at c) given r → IsPrefix made (calls_made r)
cut_too m c given made (Cut all) e f = cut_at m f.j c given made (Cut all) f.enough e f.is
cut_too m c given made (Ends all s left) e f =
    ⊎_elim
    (λ lt. cut_at m f.j c given made (Ends all s left) (omega arith) e f.is)
    (λ le. absurd (subst IsOver (sym (longer f.j m c given (Ends all s left) le tt f.is) ∙ e) tt))
    (cases_lt m f.j)
cut_too m c given made (Waits all) e f =
    ⊎_elim
    (λ lt. cut_at m f.j c given made (Waits all) (omega arith) e f.is)
    (λ le. absurd (subst IsOver (sym (longer f.j m c given (Waits all) le tt f.is) ∙ e) tt))
    (cases_lt m f.j)

code_within : (m : ℕ) (c : Config) (given : List Answer) (p r : Played State)
    → play (exec m c) given ≡ p → Follows m (at c) given r → Within p r
code_within m c given (Ends made s left) r e f = over_too m c given (Ends made s left) r tt e f
code_within m c given (Waits made) r e f = over_too m c given (Waits made) r tt e f
code_within m c given (Cut made) r e f = cut_too m c given made r e f

pub agrees : (d : Node cmd) (s : State) (given : List Answer) → Agrees d s given
agrees d s given =
    let c = begin d s in
    let means : ℕ → Played State = λ n. script n d s given in
    let follows : (n : ℕ) → Follows n (at c) given (means n) = λ n. follows_from n d s (meaning n plain d s) (at c) given (meaning_runs n d c s) in
    record {
      code_means = λ m. (m, code_within m c given (play (exec m c) given) (means m) refl (follows m));
      meaning_runs = λ n. let f = follows n in (f.j, subst (Within (means n)) (sym f.is) (within_itself (means n)));
      code_goes_on = λ m k le. goes_on m k c given le;
      meaning_goes_on = turns_go_on d s given;
    }
