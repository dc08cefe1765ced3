-- A family with one step more, and the answers that each of its processes was given.
use Rattle.std.proofs.Common.{◌≡◌, inl, inr, ℕ, suc, ◌+◌, ◌≤◌, take, List, [], ◌∷◌, ◌++◌, append_assoc, Bool, true, false, Option, Some, None, refl, sym, ap, ◌∙◌, subst, arith}
use Rattle.std.specs.Prelude.{if◌then◌else◌, nat_eq}
use Rattle.std.specs.List.{before_first, position_or_len}
use Rattle.std.proofs.lemmas.Bool.{eq-eqb, ne_eqb}
use Rattle.std.proofs.lemmas.Bool.Decides.{eqb_tells}
use Rattle.std.proofs.lemmas.List.{append-nil}
use Rattle.rc_model.specs.Run.Calls.{Launch, Call, Answer, Event, event, answers, is_halt}
use Rattle.rc_model.specs.Run.State.{State}
use Rattle.rc_model.specs.Syntax.Tree.{Node, cmd}
use Rattle.rc_model.specs.Family.Accounts.{put}
use Rattle.rc_model.specs.Family.Family.{Process, Family, FamilyEvent, shell_started, child_process, recorded, with_trace, with_child, stepped, family, first}
use Rattle.rc_model.specs.Family.Steps.{IsMade, AreMade, IsMadeBy, answers_at}
use Rattle.law_traces.proofs.Keep.{put_self, put_other}

-- ** one step more
module _ (reads : Launch → Node cmd × State) where
  pub family_on : (es : List FamilyEvent) (f : Family) (e : FamilyEvent) → family reads f (es ++ e ∷ []) ≡ stepped reads (family reads f es) e
  family_on [] f e = refl
  family_on (d ∷ es) f e = family_on es (stepped reads f d) e

  made_on : (limit : ℕ) (es : List FamilyEvent) (f : Family) (e : FamilyEvent) → AreMade reads limit f es → IsMade reads limit (family reads f es) e → AreMade reads limit f (es ++ e ∷ [])
  made_on limit [] f e m n = (n, tt)
  made_on limit (d ∷ es) f e m n = (m.0, made_on limit es (stepped reads f d) e m.1 n)

  pub sound_on : (limit : ℕ) (c : Node cmd) (s : State) (es : List FamilyEvent) (e : FamilyEvent) → IsMadeBy reads limit c s es → IsMade reads limit (family reads (first reads c s) es) e
      → IsMadeBy reads limit c s (es ++ e ∷ [])
  sound_on limit c s es e m n = record { begun = m.begun; made = made_on limit es (first reads c s) e m.made n }

-- ** the answers of process k

-- no event of a trace is a halt
abbrev pub NoHalts : List Event → Type 0
NoHalts [] = Unit {0}
NoHalts (e ∷ es) = (is_halt e.answer ≡ false) × NoHalts es

halts_on : (es : List Event) (e : Event) → NoHalts es → is_halt e.answer ≡ false → NoHalts (es ++ e ∷ [])
halts_on [] e h n = (n, tt)
halts_on (d ∷ es) e h n = (h.0, halts_on es e h.1 n)

at_false : {X : Type 0} (b : Bool) (x y : X) → b ≡ false → (if b then x else y) ≡ y
at_false b x y e = ap (λ t. if t then x else y) e

at_true : {X : Type 0} (b : Bool) (x y : X) → b ≡ true → (if b then x else y) ≡ x
at_true b x y e = ap (λ t. if t then x else y) e

answers_with : (es : List Event) (e : Event) → NoHalts es → is_halt e.answer ≡ false → answers (es ++ e ∷ []) ≡ answers es ++ e.answer ∷ []
answers_with [] e h n = at_false (is_halt e.answer) [] (e.answer ∷ []) n
answers_with (d ∷ es) e h n =
    at_false (is_halt d.answer) [] (d.answer ∷ answers (es ++ e ∷ [])) h.0
    ∙ (ap (λ l. d.answer ∷ l) (answers_with es e h.1 n)
    ∙ ap (λ l. l ++ e.answer ∷ []) (sym (at_false (is_halt d.answer) [] (d.answer ∷ answers es) h.0)))

-- what is known of a family after some steps: of each process, and of the numbers that no process has yet
pub record Known (f : Family) (k : ℕ) (given : List Answer) : Type 0 where
  pub no_halts : NoHalts (f.at k).trace
  pub are : answers (f.at k).trace ≡ given
  pub unborn : f.count ≤ k → (f.at k).trace ≡ []

module _ (reads : Launch → Node cmd × State) (limit : ℕ) where
  abbrev more : ℕ → FamilyEvent → List Answer
  more k e = if nat_eq e.at k then e.answer ∷ [] else []

  known_trace : (f : Family) (k : ℕ) (given : List Answer) (e : FamilyEvent) → IsMade reads limit f e → Known f k given → Known (with_trace f e) k (given ++ more k e)
  known_trace f k given e m w = elim (eqb_tells e.at k) [
    | inl y ↦
        let t : ((with_trace f e).at k).trace ≡ (f.at k).trace ++ event e.call e.answer ∷ [] =
        subst (λ i. (put f.at e.at (recorded (f.at e.at) e.call e.answer) i).trace ≡ (f.at i).trace ++ event e.call e.answer ∷ []) y.1
        (ap (λ p. p.trace) (put_self f.at e.at (recorded (f.at e.at) e.call e.answer))) in
        record {
          no_halts = subst NoHalts (sym t) (halts_on (f.at k).trace (event e.call e.answer) w.no_halts m.answered.came);
          are = ap answers t ∙ (answers_with (f.at k).trace (event e.call e.answer) w.no_halts m.answered.came
              ∙ (ap (λ l. l ++ e.answer ∷ []) w.are ∙ ap (λ l. given ++ l) (sym (at_true (nat_eq e.at k) (e.answer ∷ []) [] (eq-eqb e.at k y.1)))));
          unborn = λ l. absurd (let r = m.in_family in omega (arith, y.1));
        }
    | inr y ↦
        let t : ((with_trace f e).at k).trace ≡ (f.at k).trace = ap (λ p. p.trace) (put_other f.at e.at (recorded (f.at e.at) e.call e.answer) k y.1) in
        record {
          no_halts = subst NoHalts (sym t) w.no_halts;
          are = ap answers t ∙ (w.are ∙ (sym (append-nil given) ∙ ap (λ l. given ++ l) (sym (at_false (nat_eq e.at k) (e.answer ∷ []) [] (ne_eqb e.at k y.1)))));
          unborn = λ l. t ∙ w.unborn l;
        }
  ]

  known_child : (f : Family) (i : ℕ) (p : Process) (k : ℕ) (given : List Answer) (o : Option (Launch × ℕ)) → Known f k given → Known (with_child reads f i p o) k given
  known_child f i p k given None w = w
  known_child f i p k given (Some (l, n)) w = elim (eqb_tells f.count k) [
    | inl y ↦
        let t : ((with_child reads f i p (Some (l, n))).at k).trace ≡ [] =
        subst (λ j. (put f.at f.count (child_process reads i p l n) j).trace ≡ []) y.1 (ap (λ q. q.trace) (put_self f.at f.count (child_process reads i p l n))) in
        record {
          no_halts = subst NoHalts (sym t) tt;
          are = ap answers t ∙ (ap answers (sym (w.unborn (omega (arith, y.1)))) ∙ w.are);
          unborn = λ l. t;
        }
    | inr y ↦
        let t : ((with_child reads f i p (Some (l, n))).at k).trace ≡ (f.at k).trace = ap (λ q. q.trace) (put_other f.at f.count (child_process reads i p l n) k y.1) in
        record {
          no_halts = subst NoHalts (sym t) w.no_halts;
          are = ap answers t ∙ w.are;
          unborn = λ m. t ∙ w.unborn (omega arith);
        }
  ]

  with_more : (k : ℕ) (e : FamilyEvent) (es : List FamilyEvent) (b : Bool) → nat_eq e.at k ≡ b → more k e ++ answers_at k es ≡ answers_at k (e ∷ es)
  with_more k e es true n =
      ap (λ l. l ++ answers_at k es) (at_true (nat_eq e.at k) (e.answer ∷ []) [] n) ∙ sym (at_true (nat_eq e.at k) (e.answer ∷ answers_at k es) (answers_at k es) n)
  with_more k e es false n =
      ap (λ l. l ++ answers_at k es) (at_false (nat_eq e.at k) (e.answer ∷ []) [] n) ∙ sym (at_false (nat_eq e.at k) (e.answer ∷ answers_at k es) (answers_at k es) n)

  known_all : (es : List FamilyEvent) (f : Family) (k : ℕ) (given : List Answer) → AreMade reads limit f es → Known f k given → Known (family reads f es) k (given ++ answers_at k es)
  known_all [] f k given m w = subst (Known f k) (sym (append-nil given)) w
  known_all (e ∷ es) f k given m w =
      subst (Known (family reads (stepped reads f e) es) k) (append_assoc given (more k e) (answers_at k es) ∙ ap (λ l. given ++ l) (with_more k e es (nat_eq e.at k) refl))
      (known_all es (stepped reads f e) k (given ++ more k e) m.1 (known_child (with_trace f e) e.at (f.at e.at) k (given ++ more k e) (shell_started e.call e.answer) (known_trace f k given e m.0 w)))

  known : (c : Node cmd) (s : State) (es : List FamilyEvent) (k : ℕ) → IsMadeBy reads limit c s es → Known (family reads (first reads c s) es) k (answers_at k es)
  known c s es k m = known_all es (first reads c s) k [] m.made (record { no_halts = tt; are = refl; unborn = λ l. refl })

  -- the answers of a process are those of its steps
  pub answers_given : (c : Node cmd) (s : State) (es : List FamilyEvent) (k : ℕ) → IsMadeBy reads limit c s es → answers ((family reads (first reads c s) es).at k).trace ≡ answers_at k es
  answers_given c s es k m = (known c s es k m).are

  -- and one more
  pub answers_and_one : (c : Node cmd) (s : State) (es : List FamilyEvent) (k : ℕ) (d : Call) (x : Answer) → IsMadeBy reads limit c s es → is_halt x ≡ false
      → answers (recorded ((family reads (first reads c s) es).at k) d x).trace ≡ answers_at k es ++ x ∷ []
  answers_and_one c s es k d x m n =
      let w = known c s es k m in
      answers_with ((family reads (first reads c s) es).at k).trace (event d x) w.no_halts n ∙ ap (λ l. l ++ x ∷ []) w.are

-- the answers of these steps and of one more
first_or_not : (b : Bool) (x : Answer) (all some more : List Answer) → all ≡ some ++ more → (if b then x ∷ all else all) ≡ (if b then x ∷ some else some) ++ more
first_or_not true x all some more h = ap (λ l. x ∷ l) h
first_or_not false x all some more h = h

pub answers_at_more : (k : ℕ) (es : List FamilyEvent) (e : FamilyEvent) → answers_at k (es ++ e ∷ []) ≡ answers_at k es ++ (if nat_eq e.at k then e.answer ∷ [] else [])
answers_at_more k [] e = refl
answers_at_more k (d ∷ es) e = first_or_not (nat_eq d.at k) d.answer (answers_at k (es ++ e ∷ [])) (answers_at k es) (if nat_eq e.at k then e.answer ∷ [] else []) (answers_at_more k es e)

-- no answer of a trace is a halt
take_one_more : (n : ℕ) (x : Answer) (all : List Answer) → take (1 + n) (x ∷ all) ≡ x ∷ take n all
take_one_more n x all = ap (λ m. take m (x ∷ all)) (let e : 1 + n ≡ suc n = omega arith in e)

none_before : (x : Answer) (all : List Answer) (b : Bool) → is_halt x ≡ b → before_first is_halt all ≡ all → before_first is_halt (if b then [] else x ∷ all) ≡ (if b then [] else x ∷ all)
none_before x all true n h = refl
none_before x all false n h = rw n (take_one_more (position_or_len is_halt all) x all ∙ ap (λ l. x ∷ l) h)

pub none_halts : (es : List Event) → before_first is_halt (answers es) ≡ answers es
none_halts [] = refl
none_halts (e ∷ es) = none_before e.answer (answers es) (is_halt e.answer) refl (none_halts es)
