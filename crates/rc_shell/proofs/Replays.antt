-- What comes of a plan over the answers that a world plays, by what that world has recorded.
use Rattle.std.proofs.Common.{◌≡◌, ℕ, suc, ◌+◌, ◌-◌, ◌<◌, List, [], ◌∷◌, ◌++◌, append_assoc, map, length, get_or, take, Bool, true, false, Some, Result, Ok, Err, IfOk, refl, sym, ap, ◌∙◌, subst, arith}
use Rattle.std.specs.Prelude.{if◌then◌else◌, MatchResult}
use Rattle.std.specs.List.{before_first, position_or_len}
use Rattle.std.specs.declared.alloc.AllocError.{AllocError}
use Rattle.rc_model.specs.Run.Calls.{Call, Answer, refused, Event, event, calls, extend, recorded_by, fitting, is_halt, want}
use Rattle.rc_model.specs.declared.call.Fault.TheVariants.{Halt}
use Rattle.rc_model.specs.Run.Plans.{Plan, done_with, ask, cut, Waits, after_call, play, Goes}
use Rattle.law_machine.proofs.Fitting.{is_taken}
use Rattle.law_plans.proofs.Plays.{preceded}
use Rattle.rc_world.specs.Tapes.{played, tape_answers, tape_events, Plays}
use Rattle.rc_world.specs.Views.{call_of}
use Rattle.rc_world.specs.declared.event.Call.{Call as WorldCall}
use Rattle.rc_world.specs.declared.tape.Tape.{Tape}
use Rattle.rc_world.proofs.Tapes.{played_calls}
use Rattle.rc_shell.specs.ReplayEnds.{IsLast}
use Rattle.rc_shell.specs.Replays.{announced}

-- ** what a world records that announces its answers

-- one call more
pub recorded_on : (before after : Tape) (call : Call) (answer : Answer) → Plays before after call answer
    → Some (announced (tape_answers after) ++ tape_events after) ≡ extend (Some (announced (tape_answers before) ++ tape_events before)) (recorded_by call answer)
recorded_on before after call answer h =
    ap (λ l. Some (announced l ++ tape_events after)) h.1
    ∙ (ap (λ l. Some (announced (tape_answers before) ++ l)) h.0
    ∙ ap Some (sym (append_assoc (announced (tape_answers before)) (tape_events before) (recorded_by call answer))))

pub same_first : (x y : Event) (a b : List Event) → ◌≡◌ {A = List Event} (x ∷ a) (y ∷ b) → (x ≡ y) × (a ≡ b)
same_first x y a b e = (cc, cc)

-- the answers that are announced, and what was recorded after them
pub same_announced : (a b : List Answer) (es fs : List Event) → announced a ++ es ≡ announced b ++ fs → (a ≡ b) × (es ≡ fs)
same_announced [] [] es fs e = (refl, (same_first _ _ es fs e).1)
same_announced [] (y ∷ b) es fs e = let h = ap (λ z. z.call) (same_first _ _ es (announced b ++ fs) e).0 in absurd cc
same_announced (x ∷ a) [] es fs e = let h = ap (λ z. z.call) (same_first _ _ (announced a ++ es) fs e).0 in absurd cc
same_announced (x ∷ a) (y ∷ b) es fs e =
    let s = same_first _ _ (announced a ++ es) (announced b ++ fs) e in
    let h = ap (λ z. z.answer) s.0 in
    let t = same_announced a b es fs s.1 in
    (ap (λ z. z ∷ a) h ∙ ap (λ l. y ∷ l) t.0, t.1)

-- ** answers without a halt

abbrev pub NoHalt : List Answer → Type 0
NoHalt [] = Unit {0}
NoHalt (a ∷ given) = (is_halt a ≡ false) × NoHalt given

take_one_more : (n : ℕ) (x : Answer) (all : List Answer) → take (1 + n) (x ∷ all) ≡ x ∷ take n all
take_one_more n x all = ap (λ m. take m (x ∷ all)) (let e : 1 + n ≡ suc n = omega arith in e)

no_halt_more : (x : Answer) (all : List Answer) (b : Bool) → is_halt x ≡ b → NoHalt (before_first is_halt all) → NoHalt (before_first is_halt (x ∷ all))
no_halt_more x all true n h = rw n tt
no_halt_more x all false n h = rw n (subst NoHalt (sym (take_one_more (position_or_len is_halt all) x all)) (n, h))

pub no_halt : (given : List Answer) → NoHalt (before_first is_halt given)
no_halt [] = tt
no_halt (x ∷ all) = no_halt_more x all (is_halt x) refl (no_halt all)

-- ** a plan over these answers

at_false : {X : Type 0} (b : Bool) (x y : X) → b ≡ false → (if b then x else y) ≡ y
at_false b x y e = ap (λ t. if t then x else y) e

-- what a plan comes to over these answers that went on to another: the calls that are left, and the answers
pub record PlaysOn {X : Type 0} (p : Plan X) (trace : List Event) (q : Plan X) (more : List Event) (given : List Answer) : Type 0 where
  pub left : List Answer
  pub others : List Call
  pub halts_not : NoHalt left
  pub recorded : played others left ≡ more
  pub plays : play p given ≡ preceded (calls trace) (play q left)

pub plays_on : {X : Type 0} (p : Plan X) (trace : List Event) (q : Plan X) (more : List Event) (made : List Call) (given : List Answer)
    → NoHalt given → played made given ≡ trace ++ more → Goes p trace q → PlaysOn p trace q more given
plays_on p [] q more made given n h g = record { left = given; others = made; halts_not = n; recorded = h; plays = ap (λ x. play x given) g }
plays_on (done_with x) (e ∷ es) q more made given n h g = absurd g
plays_on cut (e ∷ es) q more made given n h g = absurd g
plays_on (ask c go) (e ∷ es) q more [] given n h g = absurd cc
plays_on (ask c go) (e ∷ es) q more (d ∷ made) [] n h g =
    let s = same_first (event d (refused Halt)) e (played made []) (es ++ more) h in
    let k : true ≡ false = ap (λ z. is_halt z.answer) s.0 ∙ g.1.came in
    absurd cc
plays_on (ask c go) (e ∷ es) q more (d ∷ made) (a ∷ given) n h g =
    let s = same_first (event d (fitting d a)) e (played made given) (es ++ more) h in
    let called : d ≡ c = ap (λ z. z.call) s.0 ∙ g.0 in
    let taken : fitting c a ≡ e.answer = ap (λ k. fitting k a) (sym called) ∙ ap (λ z. z.answer) s.0 in
    let r = plays_on (go e.answer) es q more made given n.1 s.1 g.2 in
    record {
      left = r.left;
      others = r.others;
      halts_not = r.halts_not;
      recorded = r.recorded;
      plays = at_false (is_halt a) (Waits (c ∷ [])) (after_call c (play (go (fitting c a)) given)) n.0
          ∙ (ap (λ b. after_call c (play (go b) given)) taken
          ∙ (ap (after_call c) r.plays
          ∙ ap (λ k. after_call k (preceded (calls es) (play q r.left))) (sym g.0)));
    }

-- a call that was not answered has no answer left
pub waits_there : {X : Type 0} (c : Call) (go : Answer → Plan X) (others : List Call) (left : List Answer) → NoHalt left
    → played others left ≡ event c (refused Halt) ∷ [] → play (ask c go) left ≡ Waits (c ∷ [])
waits_there c go others [] n h = refl
waits_there c go [] (a ∷ left) n h = absurd cc
waits_there c go (d ∷ others) (a ∷ left) n h =
    let s = same_first (event d (fitting d a)) (event c (refused Halt)) (played others left) [] h in
    let k : false ≡ true = sym n.0 ∙ (sym (is_taken (want d) a).halts ∙ ap (λ z. is_halt z.answer) s.0) in
    absurd cc

-- ** its calls

pub calls_are : (made : List Call) (given : List Answer) (trace : List Event) → played made given ≡ trace → calls trace ≡ made
calls_are made given trace h = ap calls (sym h) ∙ sym (played_calls made given)

pub not_empty : (before : List Call) (c : Call) → 0 < length (before ++ c ∷ [])
not_empty [] c = omega arith
not_empty (d ∷ before) c = omega arith

last_is : (calls : List WorldCall) (n : ℕ) (c : WorldCall) → length calls ≡ suc n → c ≡ get_or calls n c → IsLast (call_of c) (map call_of calls)
last_is [] n c e h = absurd (omega (arith, e))
last_is (d ∷ []) n c e h =
    let z : n ≡ 0 = omega (arith, e) in
    let s : c ≡ d = h ∙ ap (λ i. get_or (d ∷ []) i c) z in
    ([], ap (λ k. call_of k ∷ []) (sym s))
last_is (d ∷ (b ∷ calls)) n c e h =
    let z : n ≡ suc (n - 1) = omega (arith, e) in
    let r = last_is (b ∷ calls) (n - 1) c (omega (arith, e)) (h ∙ ap (λ i. get_or (d ∷ (b ∷ calls)) i c) z) in
    (call_of d ∷ r.0, ap (λ l. call_of d ∷ l) r.1)

-- a copy of the last call
pub last_copied : (calls : List WorldCall) (n : ℕ) (c : WorldCall) (copy : Result WorldCall AllocError) (F : AllocError → Type 0) → length calls ≡ suc n → c ≡ get_or calls n c
    → MatchResult copy (λ d. call_of d ≡ call_of c) F → IfOk copy (λ d. IsLast (call_of d) (map call_of calls))
last_copied calls n c (Ok d) F e h s = subst (λ k. IsLast k (map call_of calls)) (sym s) (last_is calls n c e h)
last_copied calls n c (Err x) F e h s = tt
